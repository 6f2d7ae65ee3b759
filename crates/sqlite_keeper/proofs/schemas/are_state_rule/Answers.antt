use Rattle.std.proofs.Common.{◌∙◌, sym}
use Rattle.sqlite_schema.specs.Code.{terms_in}
use Rattle.sqlite_keeper.specs.Schemas.{state_rule}
use Rattle.sqlite_keeper.proofs.SchemaLemmas.{lone_term}
use Rattle.sqlite_keeper.proofs.schemas.are_state_rule.Goals as goal

pub returns-then-nodes-ge4 : goal.returns-then-nodes-ge4
returns-then-nodes-ge4 c ok =
    sym c.checks.view_is
    ∙ ((λ i. terms_in (sym c.as_slice-nodes.ensures i) (sym c.as_slice.ensures i))
    ∙ lone_term c.as_slice-nodes.result.now c.as_slice.result.now state_rule c.in-len1.len_at_least c.in-len1.len_below c.if-nodes-ge4.true
    (λ depth. c.is_state_rule.ensures ok depth))
