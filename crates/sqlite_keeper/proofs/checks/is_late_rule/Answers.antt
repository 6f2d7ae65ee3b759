use Rattle.std.proofs.Common.{suc, refl, ◌∙◌}
use Rattle.sqlite_sql.specs.Term.{op2}
use Rattle.sqlite_sql.specs.declared.ops.BinaryOp.TheVariants.{Or}
use Rattle.sqlite_keeper.proofs.checks.is_late_rule.Goals as goal

pub returns-then-is_state_test : goal.returns-then-is_state_test
returns-then-is_state_test c ok depth =
    c.in-Some.ensures (suc (suc depth)) ∙ (λ i. op2 Or (c.if-is_state_test.ensures refl depth i) (c.is_state_test-then-is_state_test.ensures ok depth i))
