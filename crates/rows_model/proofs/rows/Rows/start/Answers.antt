use Rattle.std.proofs.Common.{ℕ, ◌≡◌, ◌-◌, List, map, sym, ap, ◌∙◌, arith}
use Rattle.std.specs.List.{range_with_len}
use Rattle.rows_model.specs.declared.rows.Member.{Member}
use Rattle.rows_model.specs.Rows.{start_member}
use Rattle.rows_model.specs.Near.{tables_in}
use Rattle.rows_model.proofs.KeptLemmas.{start_kept, start_in}
use Rattle.rows_model.proofs.RowsLemmas.{Fit-start, start_tables_is, start_more}
use Rattle.rows_model.proofs.rows.Rows.start.Goals as goal

pub loop-id-preserved : goal.loop-id-preserved
loop-id-preserved c =
    start_more _ _ _ c.loop-id.id (omega arith) c.loop-id.invariant c.numbered.ensures c.in_ok-push.ensures.items

pub invariant_of-result : goal.invariant_of-result
invariant_of-result c =
    let last : c.loop-id.id - 1 ≡ c.args.members = omega arith in
    let members : c.loop-id.rows.items ≡ map start_member (range_with_len 1 c.args.members) =
    c.loop-id.invariant ∙ ap (λ (n : ℕ). map start_member (range_with_len 1 n)) last in
    let ids = rw c.as_slice.ensures.value at c.in_ok-no_links.ensures.ids in
    start_kept c.loop-id.rows.items c.in_ok-no_links.field-0.items (rw members (Fit-start c.args.members c.requires.few)) ids
    c.in_ok-no_links.ensures.none c.in_ok-no_links.ensures.free

pub returns : goal.returns
returns c =
    let last : c.loop-id.id - 1 ≡ c.args.members = omega arith in
    let members : c.loop-id.rows.items ≡ map start_member (range_with_len 1 c.args.members) =
    c.loop-id.invariant ∙ ap (λ (n : ℕ). map start_member (range_with_len 1 n)) last in
    ap (λ (ms : List Member). tables_in ms c.in_ok-no_links.field-0.items) members
    ∙ (start_in (map start_member (range_with_len 1 c.args.members)) c.in_ok-no_links.field-0.items
    c.in_ok-no_links.ensures.none c.in_ok-no_links.ensures.free ∙ sym (start_tables_is c.args.members))
