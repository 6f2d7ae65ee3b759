use Rattle.std.proofs.Common.{ap, subst, Option, option_map}
use Rattle.rows_model.specs.declared.keys.QKey.{QKey}
use Rattle.entry_table.specs.Entries.{Item}
use Rattle.key_shard.specs.Kept.{Puts}
use Rattle.key_shard.proofs.PutLemmas.{Puts-by}
use Rattle.key_shard.proofs.sets.put_in_front.Goals as goal
use Rattle.key_shard.proofs.sets.put_in_front.Goals.{in-Some, in-None}

pub returns-clause-puts : goal.returns-clause-puts
returns-clause-puts c =
    let base = Puts-by c.args.key c.args.value c.args.stamp c.args.entries.now
    c.put.new.self c.in_ok-dropped.dropped c.requires c.in_ok-dropped.ensures.list c.in_ok-dropped.ensures.drops c.put.ensures.room c.put.ensures.sound in
    let puts : Option QKey → Type 0 = λ e. Puts c.args.key c.args.value c.args.stamp e c.args.entries.now c.put.new.self in
    elim c.match-dropped.branch [
      | in-Some w ↦ rw w.result-is (subst puts (ap (λ (o : Option Item). option_map (λ (d : Item). d.0) o) w.in-Some.is) base)
      | in-None w ↦ rw w.result-is (subst puts (ap (λ (o : Option Item). option_map (λ (d : Item). d.0) o) w.in-None.is) base)
    ]
