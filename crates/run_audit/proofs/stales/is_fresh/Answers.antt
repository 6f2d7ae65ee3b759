use Rattle.std.proofs.Common.{◌≡◌, true, IsTrue, is_some, refl, sym, ◌∙◌}
use Rattle.std.specs.Prelude.{nat_le}
use Rattle.run_audit.specs.Answers.{noted}
use Rattle.run_audit.specs.Numbers.{floor_of}
use Rattle.run_audit.proofs.ListLemmas.{and_elim, clash}
use Rattle.run_audit.proofs.VersionLemmas.{within, from-within}
use Rattle.run_audit.proofs.FloorLemmas.{hit-fresh, hit-within}
use Rattle.run_audit.proofs.stales.is_fresh.Goals as goal

pub returns-then-is_current : goal.returns-then-is_current
returns-then-is_current c = λ opening log past are floors.
    let key = c.in-Hit.key in
    let stamp = c.in-Hit.stamp in
    let notes = c.args.notes.now in
    let tests = and_elim (nat_le stamp notes.count) (nat_le (floor_of key c.args.floors.now) stamp) (sym c.is_current.ensures ∙ c.if-is_current.true) in
    let known : IsTrue (is_some (noted key notes.answers)) = rw c.in-Hit.is at c.requires in
    rw c.in-Hit.is (hit-fresh opening log past notes c.args.floors.now key c.in-Hit.value stamp c.answers_so.result are floors known
    (from-within stamp notes.count tests.0) (from-within (floor_of key c.args.floors.now) stamp tests.1) c.answers_so.ensures)

pub returns-else-is_current : goal.returns-else-is_current
returns-else-is_current c = λ opening log past are floors.
    let key = c.in-Hit.key in
    let stamp = c.in-Hit.stamp in
    let notes = c.args.notes.now in
    rw c.in-Hit.is (
      λ yes. clash yes c.if-is_current.false,
      λ fresh. (
          let both = hit-within opening log past notes c.args.floors.now key c.in-Hit.value stamp are floors fresh in
          let passes : c.is_current.result ≡ true = c.is_current.ensures
          ∙ rw (within stamp notes.count both.0, within (floor_of key c.args.floors.now) stamp both.1) refl in
          clash passes c.if-is_current.false
          ),
    )
