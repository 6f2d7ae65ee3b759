-- The lines of a summary, piece by piece, and the counts in it.
use Rattle.std.proofs.Common.{ℕ, ◌≡◌, ◌+◌, ◌<◌, List, [], ◌∷◌, ◌++◌, length, take, decimal, refl, sym, ap, ◌∙◌, append_assoc}
use Rattle.std.specs.Prelude.{Bool, codes, count_by, get_or}
use Rattle.key_shard.specs.declared.steps.Step.{Step}
use Rattle.key_shard.specs.Shards.{ShardView}
use Rattle.rows_model.specs.declared.keys.QKey.{QKey}
use Rattle.rows_model.specs.Key.{key_text}
use Rattle.sql_keeper.specs.declared.stores.Commit.{Commit}
use Rattle.core_history.specs.Lines.{count_in, is_hit, is_stored, is_again}
use Rattle.std.proofs.lemmas.List.{take-map}
use Rattle.std.proofs.lemmas.Option.{slice_get_read, slice_get-map}
use Rattle.std.specs.Prelude.{Some, slice_get, option_map}
use Rattle.run_audit.specs.declared.findings.Finding.TheVariants as finding
use Rattle.run_audit.specs.declared.findings.Finding.{Finding}
use Rattle.run_audit.specs.Findings.{histories_in}
use Rattle.run_inputs.specs.declared.loads.WorkSpec.{WorkSpec}
use Rattle.top_run.specs.Works.{load_line, totals_line, audit_line, summary, is_void, is_refused}
use Rattle.top_run.proofs.PrintLemmas.{counted_more}

-- lists that are joined in another order
five : (t a b c d e n : List ℕ) → ((((((t ++ a) ++ b) ++ c) ++ d) ++ e) ++ n) ≡ t ++ ((a ++ (b ++ (c ++ (d ++ e)))) ++ n)
five t a b c d e n = simp append_assoc

eight : (t a b c d e f g h n : List ℕ)
    → ((((((((((t ++ a) ++ b) ++ c) ++ d) ++ e) ++ f) ++ g) ++ h) ++ n)) ≡ t ++ ((a ++ (b ++ (c ++ (d ++ (e ++ (f ++ (g ++ h))))))) ++ n)
eight t a b c d e f g h n = simp append_assoc

two : (t a b n : List ℕ) → (((t ++ a) ++ b) ++ n) ≡ t ++ ((a ++ b) ++ n)
two t a b n = simp append_assoc

three : (t a b c n : List ℕ) → ((((t ++ a) ++ b) ++ c) ++ n) ≡ t ++ ((a ++ (b ++ c)) ++ n)
three t a b c n = simp append_assoc

inner : (a1 d1 a2 d2 a3 d3 a4 d4 a5 d5 : List ℕ)
    → (a1 ++ d1) ++ ((a2 ++ d2) ++ ((a3 ++ d3) ++ ((a4 ++ d4) ++ (a5 ++ d5)))) ≡ a1 ++ (d1 ++ (a2 ++ (d2 ++ (a3 ++ (d3 ++ (a4 ++ (d4 ++ (a5 ++ d5))))))))
inner a1 d1 a2 d2 a3 d3 a4 d4 a5 d5 = simp append_assoc

inner-eight : (a1 d1 a2 d2 a3 d3 a4 d4 a5 d5 a6 d6 a7 d7 a8 d8 : List ℕ)
    → (a1 ++ d1) ++ ((a2 ++ d2) ++ ((a3 ++ d3) ++ ((a4 ++ d4) ++ ((a5 ++ d5) ++ ((a6 ++ d6) ++ ((a7 ++ d7) ++ (a8 ++ d8)))))))
    ≡ a1 ++ (d1 ++ (a2 ++ (d2 ++ (a3 ++ (d3 ++ (a4 ++ (d4 ++ (a5 ++ (d5 ++ (a6 ++ (d6 ++ (a7 ++ (d7 ++ (a8 ++ d8))))))))))))))
inner-eight a1 d1 a2 d2 a3 d3 a4 d4 a5 d5 a6 d6 a7 d7 a8 d8 = simp append_assoc

-- the line of a load behind some text
pub load_line_is : (text : List ℕ) (spec : WorkSpec)
    → ((((((text ++ (codes "work members " ++ decimal spec.members)) ++ (codes " sessions " ++ decimal spec.sessions))
    ++ (codes " workers " ++ decimal spec.workers)) ++ (codes " shards " ++ decimal spec.shards)) ++ (codes " seed " ++ decimal spec.seed)) ++ 10 ∷ [])
    ≡ text ++ load_line spec
unfolding load_line
load_line_is text spec =
    five text (codes "work members " ++ decimal spec.members) (codes " sessions " ++ decimal spec.sessions)
    (codes " workers " ++ decimal spec.workers) (codes " shards " ++ decimal spec.shards) (codes " seed " ++ decimal spec.seed) (10 ∷ [])
    ∙ ap (λ (line : List ℕ). text ++ (line ++ 10 ∷ [])) (inner (codes "work members ") (decimal spec.members) (codes " sessions ")
    (decimal spec.sessions) (codes " workers ") (decimal spec.workers) (codes " shards ") (decimal spec.shards) (codes " seed ") (decimal spec.seed))

-- the line of the totals behind some text
pub totals_line_is : (text : List ℕ) (log : List Commit) (histories : List (List Step)) (bypasses rejected : ℕ)
    → (((((((((text ++ (codes "hits " ++ decimal (count_in is_hit histories))) ++ (codes " stores " ++ decimal (count_in is_stored histories)))
    ++ (codes " voids " ++ decimal (count_in is_void histories))) ++ (codes " agains " ++ decimal (count_in is_again histories)))
    ++ (codes " bypasses " ++ decimal bypasses)) ++ (codes " commits " ++ decimal (length log))) ++ (codes " rejected " ++ decimal rejected))
    ++ (codes " refused " ++ decimal (count_in is_refused histories))) ++ 10 ∷ [])
    ≡ text ++ totals_line log histories bypasses rejected
unfolding totals_line
totals_line_is text log histories bypasses rejected =
    eight text (codes "hits " ++ decimal (count_in is_hit histories)) (codes " stores " ++ decimal (count_in is_stored histories)) (codes " voids "
    ++ decimal (count_in is_void histories)) (codes " agains " ++ decimal (count_in is_again histories)) (codes " bypasses " ++ decimal bypasses)
    (codes " commits " ++ decimal (length log)) (codes " rejected "
    ++ decimal rejected) (codes " refused " ++ decimal (count_in is_refused histories)) (10 ∷ [])
    ∙ ap (λ (line : List ℕ). text ++ (line ++ 10 ∷ [])) (inner-eight (codes "hits ") (decimal (count_in is_hit histories)) (codes " stores ")
    (decimal (count_in is_stored histories)) (codes " voids ") (decimal (count_in is_void histories)) (codes " agains ") (decimal (count_in is_again histories))
    (codes " bypasses ") (decimal bypasses) (codes " commits ") (decimal (length log))
    (codes " rejected ") (decimal rejected) (codes " refused ") (decimal (count_in is_refused histories)))

-- the line of an audit behind some text
pub clean_line_is : (text : List ℕ) → ((text ++ codes "audit clean") ++ 10 ∷ []) ≡ text ++ audit_line finding.Clean
unfolding audit_line
clean_line_is text = append_assoc text (codes "audit clean") (10 ∷ [])

pub stale_line_is : (text : List ℕ) (shard place : ℕ)
    → (((text ++ (codes "audit stale " ++ decimal shard)) ++ (codes " " ++ decimal place)) ++ 10 ∷ []) ≡ text ++ audit_line (finding.Stale shard place)
unfolding audit_line
stale_line_is text shard place =
    two text (codes "audit stale " ++ decimal shard) (codes " " ++ decimal place) (10 ∷ [])
    ∙ ap (λ (line : List ℕ). text ++ (line ++ 10 ∷ [])) (append_assoc (codes "audit stale ") (decimal shard) (codes " " ++ decimal place))

pub uncovered_line_is : (text : List ℕ) (commit : ℕ) (key : QKey)
    → ((((text ++ (codes "audit uncovered " ++ decimal commit)) ++ 32 ∷ []) ++ key_text key) ++ 10 ∷ []) ≡ text ++ audit_line (finding.Uncovered commit key)
unfolding audit_line
uncovered_line_is text commit key =
    three text (codes "audit uncovered " ++ decimal commit) (32 ∷ []) (key_text key) (10 ∷ [])
    ∙ ap (λ (line : List ℕ). text ++ (line ++ 10 ∷ [])) (append_assoc (codes "audit uncovered ") (decimal commit) (32 ∷ key_text key))

-- the lines make the summary
pub summary_is : (spec : WorkSpec) (log : List Commit) (histories : List (List Step)) (bypasses rejected : ℕ) (found : Finding)
    → (load_line spec ++ totals_line log histories bypasses rejected) ++ audit_line found ≡ summary spec log histories bypasses rejected found
unfolding summary
summary_is spec log histories bypasses rejected found = append_assoc (load_line spec) (totals_line log histories bypasses rejected) (audit_line found)

-- the history of a shard at a place
pub history_at : (shards : List ShardView) (i : ℕ) (shard : ShardView)
    → i < length shards → shard ≡ get_or shards i shard → slice_get (histories_in shards) i ≡ Some shard.history
history_at shards i shard within is =
    slice_get-map (λ (s : ShardView). s.history) shards i
    ∙ ap (option_map (λ (s : ShardView). s.history)) (slice_get_read shards (length shards) i shard refl within is)

-- one shard more is counted
pub counted_next : (test : Step → Bool) (shards : List ShardView) (i : ℕ) (shard : ShardView) (a n : ℕ) → i < length shards → shard ≡ get_or shards i shard
    → a ≡ count_in test (histories_in (take i shards)) → n ≡ count_by test shard.history → a + n ≡ count_in test (histories_in (take (i + 1) shards))
counted_next test shards i shard a n within is before here =
    let past : (k : ℕ) → histories_in (take k shards) ≡ take k (histories_in shards) = λ k. sym (take-map (λ (s : ShardView). s.history) k shards) in
    counted_more test (histories_in shards) i shard.history a n (history_at shards i shard within is) (before ∙ ap (count_in test) (past i)) here
    ∙ ap (count_in test) (sym (past (i + 1)))
