-- The first hit that isn't fresh, in a history and among histories.
use Rattle.std.proofs.Common.{◌≡◌, ℕ, ◌+◌, ◌<◌, List, [], ◌∷◌, ◌++◌, ◌↔◌, length, take, drop, get_or, slice_get, Some, option_map, reverse}
use Rattle.std.proofs.Common.{All, refl, sym, ap, subst, ◌∙◌, arith}
use Rattle.std.proofs.lemmas.List.{take-map, take-append-drop, length-map, get_or-map, reverse-append}
use Rattle.std.proofs.lemmas.Option.{slice_get_read, slice_get_within, slice_get-map, get_or_from_slice_get}
use Rattle.std.proofs.lemmas.List.Elements.{All-push, All-get_or}
use Rattle.rows_model.specs.Rows.{Tables}
use Rattle.key_shard.specs.declared.steps.Step.{Step}
use Rattle.key_shard.specs.Shards.{ShardView}
use Rattle.sql_keeper.specs.declared.stores.Commit.{Commit}
use Rattle.sql_keeper.specs.Fresh.{Fresh, Covered, IsFreshStep, IsFreshPast}
use Rattle.run_audit.specs.Findings.{histories_in, IsFirstStaleIn, IsFirstStale, IsFoundIn, IsFinding}
use Rattle.run_audit.specs.declared.findings.Finding.{Finding}
use Rattle.run_audit.specs.declared.findings.Finding.TheVariants.{Clean, Uncovered, Stale}
use Rattle.run_audit.proofs.ListLemmas.{reverse-more}
use Rattle.run_audit.proofs.CoverLemmas.{histories-push}

-- one step more is fresh
pub fresh-more : (opening : Tables) (log : List Commit) (history : List Step) (i : ℕ) (one : Step) → i < length history → one ≡ get_or history i one
    → IsFreshStep opening log (reverse (take i history)) one → IsFreshPast opening log (reverse (take i history))
    → IsFreshPast opening log (reverse (take (i + 1) history))
fresh-more opening log history i one in' is here before =
    let more : reverse (take (i + 1) history) ≡ one ∷ reverse (take i history) =
    reverse-more history i one in' ∙ ap (λ x. x ∷ reverse (take i history)) (sym is) in
    rw more (here, before)

-- the first that isn't
pub stale-found : (opening : Tables) (log : List Commit) (history : List Step) (i : ℕ) (one : Step) → i < length history → one ≡ get_or history i one
    → ¬ (IsFreshStep opening log (reverse (take i history)) one) → IsFreshPast opening log (reverse (take i history)) → IsFirstStaleIn opening log history i
stale-found opening log history i one in' is stale before = record {
  step = one;
  there = slice_get_read history (length history) i one refl in' is;
  stale = stale;
  fresh_before = before;
}

-- the hits of one history more are fresh
pub histories-more : (opening : Tables) (log : List Commit) (shards : List ShardView) (i : ℕ) (shard : ShardView)
    → i < length shards → shard ≡ get_or shards i shard
    → IsFreshPast opening log (reverse shard.history) → Fresh opening log (histories_in (take i shards))
    → Fresh opening log (histories_in (take (i + 1) shards))
histories-more opening log shards i shard in' is here before =
    rw (histories-push shards i shard in' is)
    (All-push (λ (history : List Step). IsFreshPast opening log (reverse history)) (histories_in (take i shards)) shard.history before here)

-- the first that isn't, in the first history that has one
pub stale-in : (opening : Tables) (log : List Commit) (shards : List ShardView) (i place : ℕ) (shard : ShardView)
    → i < length shards → shard ≡ get_or shards i shard
    → IsFirstStaleIn opening log shard.history place → Fresh opening log (histories_in (take i shards)) → IsFirstStale opening log (histories_in shards) i place
stale-in opening log shards i place shard in' is found before = record {
  history = shard.history;
  there = slice_get-map (λ (one : ShardView). one.history) shards i
      ∙ ap (λ o. option_map (λ (one : ShardView). one.history) o) (slice_get_read shards (length shards) i shard refl in' is);
  first_in = found;
  fresh_before = rw (take-map (λ (one : ShardView). one.history) i shards) before;
}

-- what holds of each history holds of that of each shard
pub history-all : (P : List Step → Type 0) (shards : List ShardView) (i : ℕ) (shard : ShardView) → i < length shards → shard ≡ get_or shards i shard
    → All P (histories_in shards) → P shard.history
history-all P shards i shard in' is all =
    let count = length-map shards (λ (one : ShardView). one.history) in
    subst P (get_or-map (λ (one : ShardView). one.history) shards i shard shard.history in' ∙ ap (λ (one : ShardView). one.history) (sym is))
    (All-get_or P (histories_in shards) i shard.history (omega (arith, count)) all)

-- ---- a finding is clean exactly where all is well

fresh-behind : (opening : Tables) (log : List Commit) (later past : List Step) → IsFreshPast opening log (later ++ past) → IsFreshPast opening log past
fresh-behind opening log [] past fresh = fresh
fresh-behind opening log (one ∷ later) past fresh = fresh-behind opening log later past fresh.1

-- where a history is fresh, so is the step at each place
fresh-at : (opening : Tables) (log : List Commit) (history : List Step) (place : ℕ) (one : Step) → slice_get history place ≡ Some one
    → IsFreshPast opening log (reverse history) → IsFreshStep opening log (reverse (take place history)) one
fresh-at opening log history place one there fresh =
    let in' = slice_get_within history place one there in
    let at : get_or history place one ≡ one = get_or_from_slice_get history place one one there in
    let parts : reverse history ≡ reverse (drop (place + 1) history) ++ reverse (take (place + 1) history) =
    ap reverse (sym (take-append-drop (place + 1) history)) ∙ reverse-append (take (place + 1) history) (drop (place + 1) history) in
    let last : reverse (take (place + 1) history) ≡ one ∷ reverse (take place history) =
    reverse-more history place one in' ∙ ap (λ (x : Step). x ∷ reverse (take place history)) at in
    let behind = fresh-behind opening log (reverse (drop (place + 1) history)) (reverse (take (place + 1) history)) (rw parts at fresh) in
    let here : IsFreshPast opening log (one ∷ reverse (take place history)) = rw last at behind in
    here.0

pub found-clean : (opening : Tables) (log : List Commit) (histories : List (List Step)) (finding : Finding) → IsFinding opening log histories finding
    → (finding ≡ Clean) ↔ (Covered log histories × Fresh opening log histories)
found-clean opening log histories Clean found = (λ same. found, λ all. refl)
found-clean opening log histories (Uncovered commit key) found =
    (λ same. cc, λ all. absurd (found.not_granted (all.0 found.place found.commit key found.there found.touched)))
found-clean opening log histories (Stale shard place) found = (
  λ same. cc,
  λ all. absurd (found.1.first_in.stale (
      let in' = slice_get_within histories shard found.1.history found.1.there in
      let at : get_or histories shard found.1.history ≡ found.1.history = get_or_from_slice_get histories shard found.1.history found.1.history found.1.there in
      let whole : IsFreshPast opening log (reverse found.1.history) = subst (λ (history : List Step). IsFreshPast opening log (reverse history)) at
      (All-get_or (λ (history : List Step). IsFreshPast opening log (reverse history)) histories shard found.1.history in' all.1) in
      fresh-at opening log found.1.history place found.1.first_in.step found.1.first_in.there whole
      )),
)

-- and it is right where each commit is covered and what is found among the hits is
pub found-covered : (opening : Tables) (log : List Commit) (histories : List (List Step))
    → Covered log histories → (finding : Finding) → IsFoundIn opening log histories finding → IsFinding opening log histories finding
found-covered opening log histories covered Clean fresh = (covered, fresh)
found-covered opening log histories covered (Stale shard place) found = (covered, found)
found-covered opening log histories covered (Uncovered commit key) found = absurd found
