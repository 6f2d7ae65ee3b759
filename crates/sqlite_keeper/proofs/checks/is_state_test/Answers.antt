use Rattle.std.proofs.Common.{suc, refl, ◌∙◌}
use Rattle.sqlite_sql.specs.Term.{op2}
use Rattle.sqlite_sql.specs.declared.ops.BinaryOp.TheVariants.{Compare}
use Rattle.sqlite_sql.specs.declared.ops.CompareOp.TheVariants.{Eq}
use Rattle.sqlite.specs.Collation.TheVariants.{Binary}
use Rattle.sqlite_keeper.proofs.checks.is_state_test.Goals as goal

pub returns-then-is_state_column : goal.returns-then-is_state_column
returns-then-is_state_column c ok depth =
    c.in-Some.ensures (suc depth) ∙ (λ i. op2 (Compare Eq Binary) (c.if-is_state_column.ensures refl depth i) (c.is_number.ensures ok depth i))
