use Rattle.std.proofs.Common.{refl}
use Rattle.session_client.proofs.HandLemmas.{not_over, wants_more}
use Rattle.session_client.proofs.writers.Writer.done.Goals as goal

pub returns-in_default : goal.returns-in_default
returns-in_default c = record {
  done = λ changes short heard ready follows.
      let f = rw (← c.self.view_is) at follows in
      let r = rw (← c.self.view_is) at ready in
      let over = not_over c.self.inside.stage c.in_default.not-Done in
      let some = wants_more _ _ c.self.inside.hand c.self.inside.stage short heard c.self.invariant.1 r over f.1 in
      rw (← c.self.view_is, some) refl;
  wanting = λ changes short heard ready follows none.
      let f = rw (← c.self.view_is) at follows in
      let r = rw (← c.self.view_is) at ready in
      let over = not_over c.self.inside.stage c.in_default.not-Done in
      let some = wants_more _ _ c.self.inside.hand c.self.inside.stage short heard c.self.invariant.1 r over f.1 in
      rw (← c.self.view_is) some;
  going = tt;
  ready = tt;
}
