use Rattle.std.proofs.Common.{◌≡◌, ◌∷◌, ap, subst, ◌∙◌}
use Rattle.std.proofs.lemmas.List.Elements.{All-cons}
use Rattle.log_word.specs.Steps.{IsBeginning}
use Rattle.log_word.specs.Passes.{PassView}
use Rattle.bound_hub.proofs.PassLemmas.{all_but_last}
use Rattle.bound_hub.proofs.PartLemmas.{gather_last, all_begin}
use Rattle.bound_hub.proofs.hub_parts.gather.Goals as goal

pub join-requires-clause-note : goal.join-requires-clause-note
join-requires-clause-note g c =
    let last = c.in-Some.pass in
    let split = all_but_last (λ (pass : PassView). pass.word ≡ g.H.BoundName.word) c.loop-pass.passes.items c.pop.new.self.items last c.in-Some.ensures.items c.loop-pass.invariant.word in
    ap (λ (p : PassView). p.word) c.note.ensures.note ∙ split.1

pub loop-pass-preserved : goal.loop-pass-preserved
loop-pass-preserved g c =
    let before = c.loop-pass.invariant in
    let rest = c.pop.new.self.items in
    let last = c.in-Some.pass in
    let is = c.in-Some.ensures.items in
    let now = c.join.new.self in
    let split = all_but_last (λ (pass : PassView). pass.word ≡ g.H.BoundName.word) c.loop-pass.passes.items rest last is before.word in
    let Begun : PassView → Type 0 = λ pass. IsBeginning pass.seen now.seen in
    record {
      word = split.0;
      begun = (
        last ∷ before.begun.0,
        gather_last c.loop-pass.passes.items c.args.passes.items before.begun.0 last rest before.begun.1 is,
        All-cons Begun last before.begun.0
            (subst (λ (p : PassView). IsBeginning p.seen now.seen) c.note.ensures.note c.join.ensures.theirs)
            (all_begin c.loop-pass.store.seen now.seen before.begun.0 c.join.ensures.mine before.begun.2),
      );
      store = c.join.ensures.store ∙ before.store;
    }
