-- What is kept of a run: log, histories, rows and counts.
use Rattle.std.proofs.Common.{ℕ, ◌≡◌, ◌^◌, ◌-◌, ◌<◌, ◌≤◌, List, [], ◌∷◌, ◌++◌, length, map, reverse, arith, refl, sym, ap, ◌∙◌, subst, inl, inr}
use Rattle.std.specs.Prelude.{Option, Some, None, IsSome, slice_get, option_map, count_by}
use Rattle.std.specs.List.{AllByRecursion}
use Rattle.std.specs.Option.{ForSome}
use Rattle.std.proofs.lemmas.List.{ext_get_or, length-map, map-append, nil_from_length, reverse-append, reverse-reverse}
use Rattle.std.proofs.lemmas.List.FromFn.{length-map-range_with_len, get_or-map-range_with_len}
use Rattle.std.proofs.lemmas.Option.{get_or_from_slice_get, slice_get_within, slice_get-map}
use Rattle.iq_outside.specs.Outside.{Rose}
use Rattle.rows_model.specs.Rows.{Tables}
use Rattle.key_shard.specs.declared.steps.Step.{Step}
use Rattle.key_shard.specs.Shards.{ShardView}
use Rattle.key_shard.specs.Answers.{IsLegalPast}
use Rattle.sql_keeper.specs.declared.stores.Commit.{Commit}
use Rattle.sql_keeper.specs.Fresh.{Fresh, Covered}
use Rattle.sql_keeper.specs.Log.{rows_after}
use Rattle.session_client.specs.declared.plans.Shape.{Shape}
use Rattle.run_inputs.specs.declared.scripts.Act.{Act}
use Rattle.core_history.specs.Events.{Event, steps_of, log_of}
use Rattle.core_history.specs.Lines.{lines_of, end_line, is_fault, fault_turns}
use Rattle.core_history.specs.Cores.{CoreView, Origin, shard_after, HasShards, HasKept, IsSound, RoseBy, histories_in}
use Rattle.core_history.specs.Freshness.{IsNumbered, histories_of}
use Rattle.run_audit.specs.Findings.{AreWhole}
use Rattle.core_history.specs.Machine.{Move, terms_of}
use Rattle.core_history.specs.Determined.{Cue, cue_of}
use Rattle.core_history.specs.Truth.{IsTruePast}
use Rattle.core_history.proofs.DeterminedLemmas.{runs_determined, turns_count}
use Rattle.top_run.specs.Runs.{AreMoves, past_of, out, IsTheText, Held, IsOpened, Keeps, FewFaults}

-- the history of a shard
history_in : Shape → List Event → ℕ → List Step
history_in shape past place = reverse (steps_of place past)

-- the histories of the shards after some events
pub histories_are : (shards : List ShardView) (shape : Shape) (past : List Event)
    → HasShards shards shape past → map (λ shard. shard.history) shards ≡ histories_of shape past
histories_are shards shape past h =
    let kept = length-map shards (λ shard. shard.history) in
    let made = length-map-range_with_len (λ place. reverse (steps_of place past)) 0 shape.shards in
    ext_get_or [] (map (λ shard. shard.history) shards) (histories_of shape past) (kept ∙ h.count ∙ sym made)
    (λ i below.
    let within : i < shape.shards = subst (λ (n : ℕ). i < n) (kept ∙ h.count) below in
    let here : slice_get (map (λ shard. shard.history) shards) i ≡ Some (reverse (steps_of i past)) =
    slice_get-map (λ shard. shard.history) shards i ∙ ap (option_map (λ shard. shard.history)) (h.each i within) in
    get_or_from_slice_get (map (λ shard. shard.history) shards) i (reverse (steps_of i past)) [] here
    ∙ sym (get_or-map-range_with_len (λ place. reverse (steps_of place past)) 0 shape.shards i i [] within (omega arith)))

-- and the shards are whole
pub whole_in : (shards : List ShardView) (shape : Shape) (past : List Event) → HasShards shards shape past → AreWhole shards
whole_in shards shape past h = λ place default below.
    let is = get_or_from_slice_get shards place (shard_after shape past place) default (h.each place (subst (λ (n : ℕ). place < n) h.count below)) in
    ap (λ (shard : ShardView). shard.terms.rolls) is

-- the history at a place
history_is : (shape : Shape) (past : List Event) (place : ℕ) (history : List Step)
    → slice_get (histories_of shape past) place ≡ Some history → history ≡ reverse (steps_of place past)
history_is shape past place history is =
    let made = length-map-range_with_len (λ place. reverse (steps_of place past)) 0 shape.shards in
    let within : place < shape.shards = subst (λ (n : ℕ). place < n) made (slice_get_within (histories_of shape past) place history is) in
    sym (get_or_from_slice_get (histories_of shape past) place history [] is)
    ∙ get_or-map-range_with_len (λ place. reverse (steps_of place past)) 0 shape.shards place place [] within (omega arith)

-- the last line of a core
pub end_line_of : (core : CoreView) (origin : Origin) (moves : List Move) → HasKept core origin moves
    → end_line core.store.ledger.log (histories_in core)
    ≡ end_line (log_of (past_of origin.shape moves)) (histories_of origin.shape (past_of origin.shape moves))
end_line_of core origin moves h =
    let past = past_of origin.shape moves in
    ap (λ (log : List Commit). end_line log (histories_in core)) h.store.log
    ∙ ap (end_line (log_of past)) (histories_are core.shards origin.shape past h.shards)

-- what holds where rows are told
for_some : {P : Type 0} (rows : Option Tables) → (IsSome rows → P) → ForSome rows (λ _. P)
for_some rows h = λ known is. h (subst (λ (r : Option Tables). IsSome r) (sym is) refl)

-- what is kept of a run
pub keeps : (core : CoreView) (origin : Origin) (moves : List Move) (rows : Option Tables)
    → HasKept core origin moves → IsSound core origin moves → rows ≡ core.store.known_rows
    → Keeps origin.shape origin.opening moves rows core.store.ledger.log (histories_in core)
keeps core origin moves rows kept sound is_so =
    let past = past_of origin.shape moves in
    record {
      log_is = sound.log;
      histories_are = sound.histories;
      legal = λ place history is.
          let same = history_is origin.shape past place history (subst (λ (hs : List (List Step)). slice_get hs place ≡ Some history) sound.histories is) in
          subst (IsLegalPast (terms_of origin.shape place)) (sym (ap reverse same ∙ reverse-reverse (steps_of place past))) (sound.lawful.legal place);
      covered =
          subst (λ (log : List Commit). Covered log (histories_in core)) (sym sound.log)
          (subst (Covered (log_of past)) (sym sound.histories) sound.lawful.covered);
      quarantined = sound.lawful.quarantined;
      numbered = λ place history is.
          let same = history_is origin.shape past place history (subst (λ (hs : List (List Step)). slice_get hs place ≡ Some history) sound.histories is) in
          let back = sym (ap reverse same ∙ reverse-reverse (steps_of place past)) in
          subst (λ (log : List Commit). AllByRecursion (IsNumbered log) (reverse history)) (sym sound.log)
          (subst (AllByRecursion (IsNumbered (log_of past))) back (sound.lawful.numbered place));
      rows_are = λ tables is. sound.rows tables (sym is_so ∙ is) ∙ ap (rows_after origin.opening) (sym sound.log);
      truth = for_some rows (λ some. kept.store.truth (subst (λ (r : Option Tables). IsSome r) is_so some));
      fresh = for_some rows (λ some.
          subst (λ (log : List Commit). Fresh origin.opening log (histories_in core)) (sym sound.log)
          (subst (Fresh origin.opening (log_of past)) (sym sound.histories) (sound.fresh (subst (λ (r : Option Tables). IsSome r) is_so some))));
    }

-- what holds where rows are told holds of rows that are told
from_some : {P : Type 0} (rows : Option Tables) → ForSome rows (λ _. P) → IsSome rows → P
from_some None h some = absurd cc
from_some (Some tables) h some = h tables refl

-- where a keeper tells its rows now only if it told some then, the opening rows are still those of the place
pub opened_since : (held : Held) (shape : Shape) (opening : Tables) (known_rows now : Option Tables) → (IsSome now → IsSome known_rows)
    → IsOpened held shape opening known_rows → IsOpened held shape opening now
opened_since held shape opening known_rows now before h = record {
  fresh = h.fresh;
  opened = for_some now (λ some. from_some known_rows h.opened (before some));
}

-- so they are at the end of a run of turns
pub opened_still : (held : Held) (core : CoreView) (origin : Origin) (moves : List Move) (rows : Option Tables)
    → HasKept core origin moves → rows ≡ core.store.known_rows
    → IsOpened held origin.shape origin.opening origin.known_rows → IsOpened held origin.shape origin.opening rows
opened_still held core origin moves rows kept same =
    opened_since held origin.shape origin.opening origin.known_rows rows (λ some. kept.store.telling (subst (λ (r : Option Tables). IsSome r) same some))

-- two lists that do the same in reverse do the same
pub unreversed : (moves others : List Move) → map cue_of (reverse moves) ≡ map cue_of (reverse others) → map cue_of moves ≡ map cue_of others
unreversed moves others same = sym (backwards moves) ∙ ap reverse same ∙ backwards others
  where
    backwards : (moves : List Move) → reverse (map cue_of (reverse moves)) ≡ map cue_of moves
    backwards [] = refl
    backwards (move ∷ moves) =
        ap (λ (l : List Move). reverse (map cue_of l)) (reverse-append (move ∷ []) moves)
        ∙ ap reverse (map-append cue_of (reverse moves) (move ∷ []))
        ∙ reverse-append (map cue_of (reverse moves)) (cue_of move ∷ [])
        ∙ ap (λ (l : List Cue). cue_of move ∷ l) (backwards moves)

-- what is printed is told by the script, the opening rows and the turns that were answered FAULT
pub the_text_is : (shape : Shape) (acts : List Act) (opening : Tables) (turns : List ℕ) (moves : List Move) → AreMoves acts moves
    → IsTruePast opening (past_of shape moves) → turns ≡ fault_turns (past_of shape moves) → IsTheText shape acts opening turns (out shape moves)
the_text_is shape acts opening turns moves made truth are others also true_too same =
    ap (λ (past : List Event). lines_of past ++ end_line (log_of past) (histories_of shape past))
    (runs_determined shape opening others moves (unreversed others moves (also ∙ sym made)) true_too truth (same ∙ are))

-- there are FAULT lines exactly where some turn was answered so
pub no_turns : (past : List Event) → count_by is_fault past ≡ 0 → [] ≡ fault_turns past
no_turns past none = sym (nil_from_length (fault_turns past) (turns_count past ∙ none))

pub some_turns : (past : List Event) → 1 ≤ count_by is_fault past → fault_turns past ≡ [] → ⊥
some_turns past some none =
    let count : 0 ≡ count_by is_fault past = ap length (sym none) ∙ turns_count past in
    omega (arith, some, count)

pub none_told : (past : List Event) → [] ≡ fault_turns past → count_by is_fault past ≡ 0
none_told past none = sym (turns_count past) ∙ ap length (sym none)

-- a count that rose since an earlier time
pub rose_since : (count earlier before after : ℕ) → earlier ≤ before → RoseBy count before after → FewFaults count earlier after
rose_since count earlier before after up (inl h) = inl (omega (arith, up, h))
rose_since count earlier before after up (inr h) =
    let low = h.0 in
    let high = h.1 in
    inr (omega arith, high)

pub never_fell : (count earlier before after : ℕ) → earlier ≤ before → RoseBy count before after → earlier ≤ after
never_fell count earlier before after up (inl h) = omega (arith, up, h)
never_fell count earlier before after up (inr h) =
    let low = h.0 in
    let high = h.1 in
    omega arith

-- where there was a FAULT, the count of faults rose
pub rose_of : (faults before after : ℕ) → 1 ≤ faults → FewFaults faults before after → Rose before after
rose_of faults before after some (inl h) = inl (omega (arith, some, h))
rose_of faults before after some (inr h) = risen before after h.0 h.1
  where
    risen : (before after : ℕ) → before ≤ 2 ^ 64 - 1 → 2 ^ 64 - 1 ≤ after → Rose before after
    risen before after low high = grind arith
