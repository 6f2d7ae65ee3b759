-- The changes of a transaction, made in a database one after the other.
use Rattle.std.proofs.Common.{◌≡◌, ℕ, ◌+◌, ◌≤◌, Bool, true, false, cond, List, [], ◌∷◌, Result, Ok, Err, refl, sym, ap, subst, ◌∙◌, arith}
use Rattle.std.specs.Prelude.{count_by}
use Rattle.std.proofs.lemmas.List.Elements.{All-nil, All-cons}
use Rattle.rows_model.specs.declared.changes.Change.{Change}
use Rattle.rows_model.specs.Rows.{Tables, Fit}
use Rattle.rows_model.specs.Changes.{HasIds, applies, changed, apply_from, apply_all}
use Rattle.rows_model.specs.declared.keys.QKey.{QKey}
use Rattle.rows_model.specs.Query.{answer}
use Rattle.sql_keeper.specs.Keepers.{AnswersAfter}
use Rattle.rows_model.specs.Judge.{adds, ends, adds_block}
use Rattle.rows_model.proofs.FitLemmas.{count_cons}
use Rattle.rows_model.proofs.JudgeLemmas.{links_counted, blocks_counted}
use Rattle.rows_model.proofs.StayFitLemmas.{Fit-changed}
use Rattle.sql_keeper.specs.declared.faults.KeepFault.{KeepFault}
use Rattle.sql_keeper.specs.declared.faults.KeepFault.TheVariants as keep
use Rattle.sql_keeper.specs.declared.faults.AfterFault.{AfterFault}
use Rattle.sql_keeper.specs.declared.faults.AfterFault.TheVariants.{Rejected, Failed, Memory}
use Rattle.sqlite.specs.Effect.{Database}
use Rattle.sqlite_tables.specs.Lists.{Lists, AreLists, lists_of, tables_of}
use Rattle.sqlite_tables.specs.Changes.{lists_after, IsFree}
use Rattle.sqlite_tables.proofs.WholeLemmas.{lists_are_one}
use Rattle.sqlite_tables.proofs.ChangeLemmas.{changes_are_made}
use Rattle.sqlite_keeper.specs.declared.bonds.Tally.{Tally}
use Rattle.sqlite_keeper.specs.Bonds.{IsTallied}
use Rattle.sqlite_keeper.specs.Bases.{rows_in, IsCounted}
use Rattle.sqlite_keeper.specs.Makes.{tally_after, MakesFrom, StagedAnswer, as_staged}

-- one change, counted
counted_one : (p : Change → Bool) (change : Change) → count_by p (change ∷ []) ≡ cond (p change) 1 0
counted_one p change = let n = count_cons p change [] in omega (arith, n)

at_most_one : (b : Bool) → cond b 1 0 ≤ 1
at_most_one true = omega arith
at_most_one false = omega arith

-- a change that applies, made alone
alone : (change : Change) (rows : Tables) → applies change rows ≡ true → apply_from 0 (change ∷ []) rows ≡ Ok (changed change rows)
alone change rows e = rw e refl

-- the counts after a change that applies are those of the rows after it
pub tallied_after : (change : Change) (rows : Tables) (tally : Tally) → Fit rows → HasIds change → applies change rows ≡ true → IsTallied tally rows
    → IsTallied (tally_after change tally) (changed change rows)
tallied_after change rows tally fit ids e had =
    let all = All-cons HasIds change [] ids (All-nil HasIds) in
    let links = links_counted 0 (change ∷ []) rows (changed change rows) fit all (alone change rows e) in
    let blocks = blocks_counted 0 (change ∷ []) rows (changed change rows) fit all (alone change rows e) in
    let more = counted_one adds change in
    let less = counted_one ends change in
    let put = counted_one adds_block change in
    let one = at_most_one (adds change) in
    let two = at_most_one (adds_block change) in
    record {
      links = omega (arith, links, more, less, one, had.links, fit.few_links);
      blocks = omega (arith, blocks, put, two, had.blocks, fit.few_blocks);
    }

-- a database that holds the lists after a change that applies holds the rows after it, counted
pub made_one : (change : Change) (old new : Database) (tally : Tally) → HasIds change → IsCounted tally old → applies change (rows_in old) ≡ true
    → AreLists new (lists_after change (lists_of old)) → IsCounted (tally_after change tally) new × (rows_in new ≡ changed change (rows_in old))
made_one change old new tally ids counted e are =
    let same = lists_are_one new (lists_after change (lists_of old)) are in
    let law = changes_are_made change (lists_of old) counted.lists.pairs_ascend counted.fit e in
    let rows : rows_in new ≡ changed change (rows_in old) = ap tables_of same ∙ law.1 in (
      record {
        lists = subst (λ (l : Lists). AreLists new l) (sym same) are;
        fit = subst Fit (sym rows) (Fit-changed change (rows_in old) counted.fit ids e);
        tallied = subst (λ (t : Tables). IsTallied (tally_after change tally) t) (sym rows) (tallied_after change (rows_in old) tally counted.fit ids e counted.tallied);
      },
      rows,
    )

pub free_before : (change : Change) (old : Database) (tally : Tally) → IsCounted tally old → applies change (rows_in old) ≡ true → IsFree change (lists_of old)
free_before change old tally counted e = (changes_are_made change (lists_of old) counted.lists.pairs_ascend counted.fit e).0

-- one change, and then the others
pub made_then : (place : ℕ) (change : Change) (rest : List Change) (rows : Tables) (mid new : Database) (r : Result Tally AfterFault)
    → applies change rows ≡ true → rows_in mid ≡ changed change rows → MakesFrom (place + 1) rest (rows_in mid) new r → MakesFrom place (change ∷ rest) rows new r
made_then place change rest rows mid new (Ok tally) e is h = (h.0, rw e (rw is at h.1))
made_then place change rest rows mid new (Err (Rejected index)) e is h = rw e (rw is at h)
made_then place change rest rows mid new (Err Failed) e is h = tt
made_then place change rest rows mid new (Err Memory) e is h = tt

-- a first change that doesn't apply
pub refused_first : (place : ℕ) (change : Change) (rest : List Change) (rows : Tables) → applies change rows ≡ false → apply_from place (change ∷ rest) rows ≡ Err place
refused_first place change rest rows e = rw e refl

-- a fault of the database names no place
pub no_place : (place : ℕ) (changes : List Change) (rows : Tables) (db : Database) (fault : KeepFault) → MakesFrom place changes rows db (Err (as_staged fault))
no_place place changes rows db keep.Failed = tt
no_place place changes rows db keep.Memory = tt

-- an answer on the rows that the changes led to
pub answers_after : (changes : List Change) (key : QKey) (rows after : Tables) (result : Result (List ℕ) AfterFault) → apply_all changes rows ≡ Ok after
    → StagedAnswer (answer key after) result → AnswersAfter changes key rows result
answers_after changes key rows after (Ok value) e h = (after, e, h)
answers_after changes key rows after (Err (Rejected index)) e h = absurd h
answers_after changes key rows after (Err Failed) e h = tt
answers_after changes key rows after (Err Memory) e h = tt

-- a fault of the database is no answer
pub no_answer : (text : List ℕ) (fault : KeepFault) → StagedAnswer text (Err (as_staged fault))
no_answer text keep.Failed = tt
no_answer text keep.Memory = tt
