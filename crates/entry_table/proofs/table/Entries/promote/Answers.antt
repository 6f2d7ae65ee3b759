use Rattle.std.proofs.Common.{sym, ap, subst, ◌∙◌}
use Rattle.entry_table.specs.Entries.{IsSound, promoted}
use Rattle.entry_table.specs.Kept.{shown_table}
use Rattle.entry_table.proofs.EntriesLemmas.{IsSound-promoted}
use Rattle.entry_table.proofs.KeptLemmas.{promoted-shown_all}
use Rattle.entry_table.proofs.table.Entries.promote.Goals as goal

pub invariant_of-self : goal.invariant_of-self
invariant_of-self c =
    let moved = ap shown_table c.promote.ensures.entries ∙ promoted-shown_all c.args.key.now _ _ c.self.invariant.distinct in
    subst IsSound (sym moved) (IsSound-promoted c.args.key.now _ c.self.invariant)

pub returns-then-not-is_first-clause-promotes : goal.returns-then-not-is_first-clause-promotes
returns-then-not-is_first-clause-promotes c =
    ap shown_table c.promote.ensures.entries ∙ promoted-shown_all c.args.key.now _ _ c.self.invariant.distinct
    ∙ ap (promoted c.args.key.now) c.self.view_is

pub returns-then-not-is_first-clause-sound : goal.returns-then-not-is_first-clause-sound
returns-then-not-is_first-clause-sound c = invariant_of-self c
