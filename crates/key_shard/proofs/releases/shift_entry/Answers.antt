use Rattle.std.proofs.Common.{◌≡◌, ap, sym, ◌∙◌, List, ℕ, Some, None}
use Rattle.std.proofs.lemmas.Int.{to_z-of_z}
use mir.Syntax.{w32}
use mir.Val.{to_z, of_z}
use Rattle.entry_table.specs.Entries.{replaced}
use Rattle.rows_model.specs.Shift.{shifted}
use Rattle.key_shard.proofs.EndLemmas.{Ends-none, Ends-lost, Ends-moved}
use Rattle.key_shard.proofs.releases.shift_entry.Goals as goal

pub returns-in_default : goal.returns-in_default
returns-in_default c =
    Ends-none c.args.key.now c.args.by c.args.stamp c.args.entries.now c.in_default.ensures.value c.requires.sound

pub returns-in-Some-shift : goal.returns-in-Some-shift
returns-in-Some-shift c =
    let found : List ℕ × ℕ = (c.in-Some.old.now, c.in-Some.field-0-1) in
    let moved : Some c.in-Some-shift.number ≡ shifted found.0 c.args.by =
    sym c.in-Some-shift.is ∙ c.shift.ensures ∙ ap (λ t. shifted t (to_z w32 (of_z w32 c.args.by))) c.bytes.ensures
    ∙ ap (shifted found.0) (to_z-of_z w32 c.args.by c.ranges.by) in
    Ends-moved c.args.key.now c.args.by c.args.stamp c.args.entries.now c.reput.new.self found c.in-Some-shift.number c.in-Some.ensures.value moved
    (c.reput.ensures.list ∙ ap (λ v. replaced c.args.key.now v c.args.stamp c.args.entries.now.list) c.value_in.ensures)
    c.reput.ensures.room c.reput.ensures.sound

pub returns-in-None : goal.returns-in-None
returns-in-None c =
    let found : List ℕ × ℕ = (c.in-Some.old.now, c.in-Some.field-0-1) in
    let none : None ≡ shifted found.0 c.args.by =
    sym c.in-None.is ∙ c.shift.ensures ∙ ap (λ t. shifted t (to_z w32 (of_z w32 c.args.by))) c.bytes.ensures
    ∙ ap (shifted found.0) (to_z-of_z w32 c.args.by c.ranges.by) in
    Ends-lost c.args.key.now c.args.by c.args.stamp c.args.entries.now
    c.drop_key.new.self found c.in-Some.ensures.value none c.drop_key.ensures.list c.drop_key.ensures.room c.drop_key.ensures.sound
