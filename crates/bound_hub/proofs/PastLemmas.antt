-- The steps of a shard since the hub was made, as its pass has seen them: which of them a shorter list of
-- steps in short is of, and what is tied after each of them.
use Rattle.std.proofs.Common.{◌≡◌, List, [], ◌∷◌, ◌++◌, refl, ap}
use Rattle.rows_model.specs.declared.keys.QKey.{QKey}
use Rattle.key_shard.specs.declared.steps.Step.{Step}
use Rattle.key_shard.specs.Past.{Terms, entry}
use Rattle.key_shard.specs.Answers.{IsLegalPast}
use Rattle.log_word.specs.declared.events.Short.{Short}
use Rattle.log_word.specs.Lists.{IsStart}
use Rattle.bound_hub.specs.Shorts.{shorts_of}
use Rattle.bound_hub.specs.Facts.{IsQuiet}
use Rattle.bound_hub.proofs.FactLemmas.{stamped_first}
use Rattle.bound_hub.proofs.FirstEntry.{IsTiedAfter, tie_step}
use Rattle.bound_hub.proofs.MadeLemmas.{ends_own}

-- marks and what the shard holds are tied after each legal past that goes on from a quiet one
pub legal_tied : (terms : Terms) (key : QKey) (before : List Step) (quiet : IsQuiet before) (more : List Step) → IsLegalPast terms (more ++ before) → IsTiedAfter key before quiet more
legal_tied terms key before quiet [] legal = record { granted = λ who token h. absurd h; stamped = stamped_first (entry key before) }
legal_tied terms key before quiet (s ∷ more) legal =
    tie_step key before quiet more s (ends_own terms (more ++ before) s legal.0 legal.1) (legal_tied terms key before quiet more legal.1)

-- a step among others, the latest first
pub record StandsIn (before more : List Step) (short : Short) (earlier : List Short) : Type 0 where
  pub later : List Step
  pub step : Step
  pub rest : List Step
  pub goes_on : more ≡ later ++ step ∷ rest
  pub shorts : shorts_of before (step ∷ rest) ≡ short ∷ earlier

abbrev behind : List Short → List Short
behind [] = []
behind (x ∷ xs) = xs

-- steps in short that the pass had seen before are those of some of its steps
pub stands_in : (before more : List Step) (short : Short) (earlier : List Short) → IsStart (short ∷ earlier) (shorts_of before more) → StandsIn before more short earlier
stands_in before more short earlier start = by start.0 more start.1
  where
    by : (k : List Short) (more : List Step) → shorts_of before more ≡ k ++ short ∷ earlier → StandsIn before more short earlier
    by [] [] e = absurd cc
    by (x ∷ k) [] e = absurd cc
    by [] (s ∷ more) e = record {
      later = [];
      step = s;
      rest = more;
      goes_on = refl;
      shorts = e;
    }
    by (x ∷ k) (s ∷ more) e =
        let found = by k more (ap behind e) in
        record {
          later = s ∷ found.later;
          step = found.step;
          rest = found.rest;
          goes_on = ap (λ l. s ∷ l) found.goes_on;
          shorts = found.shorts;
        }
