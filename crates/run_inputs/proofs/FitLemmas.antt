-- A script's acts can be run.
use Rattle.std.proofs.Common.{ℕ, ◌+◌, ◌≡◌, ◌≤◌, true, List, [], ◌∷◌, ◌++◌, Some, None, arith, refl, sym, ◌∙◌, subst}
use Rattle.std.specs.Prelude.{◌≢◌, nat_lt, flat_map, not, sum_by}
use Rattle.std.proofs.lemmas.Bool.{false≢true}
use Rattle.std.proofs.lemmas.Bool.Decides.{nat_tests}
use Rattle.std.proofs.lemmas.List.Sums.{sum_by-append}
use Rattle.session_client.specs.declared.plans.Shape.{Shape}
use Rattle.session_client.specs.Plans.{IsShape}
use Rattle.run_inputs.specs.declared.lines.Part.TheVariants.{Members, Shards, Room, Life}
use Rattle.run_inputs.specs.declared.lines.Verb.{Verb}
use Rattle.run_inputs.specs.declared.lines.Verb.TheVariants as verb
use Rattle.run_inputs.specs.declared.lines.Job.TheVariants.{Read, Write, Look, Quit, Skip, Raise, Renew}
use Rattle.run_inputs.specs.declared.lines.Line.{Line}
use Rattle.run_inputs.specs.declared.lines.Line.TheVariants.{Head, Session, Turn, Tick, Sweep, End}
use Rattle.run_inputs.specs.declared.stages.Stage.{Stage}
use Rattle.run_inputs.specs.declared.stages.Stage.TheVariants as stage
use Rattle.run_inputs.specs.declared.stages.Progress.{Progress}
use Rattle.run_inputs.specs.declared.scripts.Act.{Act}
use Rattle.run_inputs.specs.Texts.{words_in}
use Rattle.run_inputs.specs.Lines.{AreArgs, AreWords, verb_of}
use Rattle.run_inputs.specs.Script.{start, after, after_all, is_in_place, stage_after, shape_after, sessions_in, turns_in, acts_in}
use Rattle.run_inputs.specs.Script.{is_numbered, has_key, fault_of, AreSound, IsScript}
use Rattle.run_inputs.specs.Fit.{turns_of, AreFit, IsPlayable}
use Rattle.run_inputs.proofs.LineLemmas.{Passes, passes, few_turns, true_from}

-- a shape whose numbers are within their ranges; that of the members is told by the first line
record IsShaped (at : Stage) (shape : Shape) : Type 0 where
  some_members : at ≢ stage.Start → 1 ≤ shape.members
  few_members : shape.members ≤ 100000
  some_shards : 1 ≤ shape.shards
  few_shards : shape.shards ≤ 64
  some_room : 1 ≤ shape.room
  small_room : shape.room ≤ 65536
  some_life : 1 ≤ shape.life

-- nothing but `members` stands first
first_is : (v : Verb) → is_in_place stage.Start v ≡ true → v ≡ verb.Head Members
first_is (verb.Head Members) e = refl
first_is v e = absurd (false≢true e)

not_first : (at : Stage) (v : Verb) → is_in_place at v ≡ true → v ≢ verb.Head Members → at ≢ stage.Start
not_first at v e other same = other (first_is v (rw same at e))

shaped_head : (at : Stage) (shape : Shape) (said : Line) (words : List (List ℕ)) → IsShaped at shape → AreArgs said words → is_in_place at (verb_of said) ≡ true
    → IsShaped (stage_after said) (shape_after said shape)
shaped_head at shape (Head Members number) words h k e = record {
  some_members = λ _. k.0;
  few_members = k.1;
  some_shards = h.some_shards;
  few_shards = h.few_shards;
  some_room = h.some_room;
  small_room = h.small_room;
  some_life = h.some_life;
}
shaped_head at shape (Head Shards number) words h k e = record {
  some_members = λ _. h.some_members (not_first at (verb.Head Shards) e (λ f. cc));
  few_members = h.few_members;
  some_shards = k.0;
  few_shards = k.1;
  some_room = h.some_room;
  small_room = h.small_room;
  some_life = h.some_life;
}
shaped_head at shape (Head Room number) words h k e = record {
  some_members = λ _. h.some_members (not_first at (verb.Head Room) e (λ f. cc));
  few_members = h.few_members;
  some_shards = h.some_shards;
  few_shards = h.few_shards;
  some_room = k.0;
  small_room = k.1;
  some_life = h.some_life;
}
shaped_head at shape (Head Life number) words h k e = record {
  some_members = λ _. h.some_members (not_first at (verb.Head Life) e (λ f. cc));
  few_members = h.few_members;
  some_shards = h.some_shards;
  few_shards = h.few_shards;
  some_room = h.some_room;
  small_room = h.small_room;
  some_life = k.0;
}
shaped_head at shape said words h k e = record {
  some_members = λ _. h.some_members (not_first at (verb_of said) e (λ f. cc));
  few_members = h.few_members;
  some_shards = h.some_shards;
  few_shards = h.few_shards;
  some_room = h.some_room;
  small_room = h.small_room;
  some_life = h.some_life;
}

shaped_on : (at : Stage) (shape : Shape) (said : Line) (words : List (List ℕ)) → IsShaped at shape → AreWords said words → is_in_place at (verb_of said) ≡ true
    → IsShaped (stage_after said) (shape_after said shape)
shaped_on at shape said [] h k e = absurd k
shaped_on at shape said (word ∷ words) h k e = shaped_head at shape said words h k.1 e

shaped_all : (progress : Progress) (lines : List (List ℕ)) (said : List Line) → IsShaped progress.stage progress.shape → AreSound progress lines said
    → IsShaped (after_all progress said).stage (after_all progress said).shape
shaped_all progress [] [] h k = h
shaped_all progress [] (x ∷ said) h k = absurd k
shaped_all progress (line ∷ lines) [] h k = absurd k
shaped_all progress (line ∷ lines) (x ∷ said) h k =
    shaped_all (after progress x) lines said (shaped_on progress.stage progress.shape x (words_in line) h k.0.says.words k.0.says.in_place) k.1

shaped_start : IsShaped start.stage start.shape
shaped_start = record {
  some_members = λ other. absurd (other refl);
  few_members = omega arith;
  some_shards = omega arith;
  few_shards = omega arith;
  some_room = omega arith;
  small_room = omega arith;
  some_life = omega arith;
}

-- what a line without a fault is
tests_of : (progress : Progress) (said : Line) → fault_of progress said ≡ None
    → Passes (not (is_numbered progress.begun said)) (not (has_key said)) (nat_lt 1000000 (progress.turns + turns_in said))
tests_of progress said e = passes _ _ _ e

-- the acts of a line go before fit ones
fit_before : (begun : ℕ) (said : Line) (words : List (List ℕ)) (acts : List Act)
    → AreArgs said words → is_numbered begun said ≡ true → has_key said ≡ true
    → AreFit (begun + sessions_in said) acts → AreFit begun (acts_in said ++ acts)
fit_before begun (Session number job) [] acts k a b h = absurd k
fit_before begun (Session number (Read key floor)) (word ∷ words) acts k a b h = (tt, h)
fit_before begun (Session number (Write mode txn)) (word ∷ []) acts k a b h = absurd k.1
fit_before begun (Session number (Write mode txn)) (word ∷ next ∷ words) acts k a b h = (k.1.1.0, h)
fit_before begun (Session number (Look mode key txn)) (word ∷ []) acts k a b h = absurd k.1
fit_before begun (Session number (Look mode key txn)) (word ∷ next ∷ []) acts k a b h = absurd k.1
fit_before begun (Session number (Look mode key txn)) (word ∷ next ∷ third ∷ words) acts k a b h = ((k.1.2.0, b), h)
fit_before begun (Session number (Quit mode txn)) (word ∷ []) acts k a b h = absurd k.1
fit_before begun (Session number (Quit mode txn)) (word ∷ next ∷ words) acts k a b h = (k.1.1.0, h)
fit_before begun (Session number (Skip key txn)) (word ∷ []) acts k a b h = absurd k.1
fit_before begun (Session number (Skip key txn)) (word ∷ next ∷ words) acts k a b h = ((k.1.1.0, b), h)
fit_before begun (Session number (Raise txn)) (word ∷ words) acts k a b h = (k.1.0, h)
fit_before begun (Session number (Renew mode txn)) (word ∷ []) acts k a b h = absurd k.1
fit_before begun (Session number (Renew mode txn)) (word ∷ next ∷ words) acts k a b h = (k.1.1.0, h)
fit_before begun (Turn None count) words acts k a b h = absurd (false≢true a)
fit_before begun (Turn (Some number) count) words acts k a b h =
    ((grind (arith, nat_tests), grind (arith, nat_tests)), subst (λ (n : ℕ). AreFit n acts) (omega arith) h)
fit_before begun (Tick ticks) words acts k a b h = (tt, h)
fit_before begun (Sweep count) words acts k a b h = (tt, h)
fit_before begun (Head part number) words acts k a b h = subst (λ (n : ℕ). AreFit n acts) (omega arith) h
fit_before begun End words acts k a b h = subst (λ (n : ℕ). AreFit n acts) (omega arith) h

fit_line : (progress : Progress) (said : Line) (words : List (List ℕ)) (acts : List Act)
    → AreWords said words → fault_of progress said ≡ None → AreFit (progress.begun + sessions_in said) acts → AreFit progress.begun (acts_in said ++ acts)
fit_line progress said [] acts k e h = absurd k
fit_line progress said (word ∷ words) acts k e h =
    let p = tests_of progress said e in
    fit_before progress.begun said words acts k.1 (true_from _ p.first) (true_from _ p.second) h

fit_all : (progress : Progress) (lines : List (List ℕ)) (said : List Line) → AreSound progress lines said → AreFit progress.begun (flat_map acts_in said)
fit_all progress [] [] k = tt
fit_all progress [] (x ∷ said) k = absurd k
fit_all progress (line ∷ lines) [] k = absurd k
fit_all progress (line ∷ lines) (x ∷ said) k =
    fit_line progress x (words_in line) (flat_map acts_in said) k.0.says.words k.0.none (fit_all (after progress x) lines said k.1)

-- the turns of a line's acts are no more than those of the line
turns_at_most : (said : Line) → sum_by turns_of (acts_in said) ≤ turns_in said
turns_at_most (Head part number) = omega arith
turns_at_most (Session number (Read key floor)) = omega arith
turns_at_most (Session number (Write mode txn)) = omega arith
turns_at_most (Session number (Look mode key txn)) = omega arith
turns_at_most (Session number (Quit mode txn)) = omega arith
turns_at_most (Session number (Skip key txn)) = omega arith
turns_at_most (Session number (Raise txn)) = omega arith
turns_at_most (Session number (Renew mode txn)) = omega arith
turns_at_most (Turn None count) = omega arith
turns_at_most (Turn (Some number) count) = omega arith
turns_at_most (Tick ticks) = omega arith
turns_at_most (Sweep count) = omega arith
turns_at_most End = omega arith

turns_all : (progress : Progress) (lines : List (List ℕ)) (said : List Line) → progress.turns ≤ 1000000 → AreSound progress lines said
    → progress.turns + sum_by turns_of (flat_map acts_in said) ≤ 1000000
turns_all progress [] [] few k = omega arith
turns_all progress [] (x ∷ said) few k = absurd k
turns_all progress (line ∷ lines) [] few k = absurd k
turns_all progress (line ∷ lines) (x ∷ said) few k =
    let now = few_turns progress x k.0.none in
    let rest : (progress.turns + turns_in x) + sum_by turns_of (flat_map acts_in said) ≤ 1000000 = turns_all (after progress x) lines said now k.1 in
    let here = turns_at_most x in
    let sums : sum_by turns_of (acts_in x ++ flat_map acts_in said) ≡ sum_by turns_of (acts_in x) + sum_by turns_of (flat_map acts_in said) =
    sum_by-append turns_of (acts_in x) (flat_map acts_in said) in
    let whole : progress.turns + sum_by turns_of (acts_in x ++ flat_map acts_in said) ≤ 1000000 = omega arith in
    whole

-- a script can be run
pub playable : (text : List ℕ) (shape : Shape) (acts : List Act) → IsScript text shape acts → IsPlayable shape acts
playable text shape acts h =
    let shaped = shaped_all start _ h.said shaped_start h.sound in
    let all = turns_all start _ h.said (omega arith) h.sound in
    let few : sum_by turns_of (flat_map acts_in h.said) ≤ 1000000 = omega arith in
    let fits : IsShape (after_all start h.said).shape = record {
      some_members = shaped.some_members (λ e. (let same : stage.End ≡ stage.Start = sym h.ended ∙ e in cc));
      few_members = shaped.few_members;
      some_shards = shaped.some_shards;
      few_shards = shaped.few_shards;
      some_room = shaped.some_room;
      small_room = shaped.small_room;
      some_life = shaped.some_life;
    } in
    record {
      shape_fits = subst (λ (s : Shape). IsShape s) (sym h.shape_is) fits;
      fit = subst (λ (xs : List Act). AreFit 0 xs) (sym h.acts_are) (fit_all start _ h.said h.sound);
      short = subst (λ (xs : List Act). sum_by turns_of xs ≤ 1000000) (sym h.acts_are) few;
    }
