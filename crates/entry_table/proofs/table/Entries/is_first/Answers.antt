use Rattle.std.proofs.Common.{◌≡◌, sym, subst, ◌∙◌}
use Rattle.entry_table.specs.Entries.{Table, promoted}
use Rattle.entry_table.proofs.KeptLemmas.{eq-true, promoted-first}
use Rattle.entry_table.proofs.table.Entries.is_first.Goals as goal

pub returns-in-Some-clause-in_front : goal.returns-in-Some-clause-in_front
returns-in-Some-clause-in_front c is =
    let cache = c.self.inside.cache in
    let first = promoted-first c.args.key.now cache.cap cache.entries c.in-Some.first.now c.in-Some.field-0-1.now (c.in-Some.ensures) (sym (eq-true _ _ (sym c.eq.ensures ∙ is))) c.self.invariant.distinct in
    subst (λ (t : Table). promoted c.args.key.now t ≡ t) c.self.view_is first
