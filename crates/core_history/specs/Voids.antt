-- A set under a token that stands no longer changes nothing that its shard shows from then on.
use Rattle.std.specs.Prelude.{ℕ, ◌≡◌, ◌≤◌, List, ◌∷◌}
use Rattle.rows_model.specs.declared.keys.QKey.{QKey}
use Rattle.rows_model.specs.declared.keys.Sid.{Sid}
use Rattle.lease_table.specs.Leases.{is_current}
use Rattle.key_shard.specs.declared.steps.Step.{Step}
use Rattle.key_shard.specs.declared.steps.Step.TheVariants.{Void}
use Rattle.key_shard.specs.Past.{Terms, standing, recorded, seen_by, entry, order, next_token}

-- After this step of this time the shard holds what it held before: each entry, their order by use, the quarantines on each key and the next token.
-- At no later time does any session see anything else on a key, and no token stands that did not, or the other way round. All that may be gone is
-- a lease that was past its deadline.
pub record IsInert (past : List Step) (now : ℕ) (step : Step) : Type 0 where
  pub same_entry : (key : QKey) → entry key (step ∷ past) ≡ entry key past
  pub same_order : order (step ∷ past) ≡ order past
  pub same_standing : (key : QKey) → standing key (step ∷ past) ≡ standing key past
  pub same_seen : (key : QKey) (who : Sid) (later : ℕ) → now ≤ later → seen_by key who later (step ∷ past) ≡ seen_by key who later past
  pub same_current : (key : QKey) (token later : ℕ) → now ≤ later → is_current token later (recorded key (step ∷ past)) ≡ is_current token later (recorded key past)
  pub same_token : (terms : Terms) → next_token terms (step ∷ past) ≡ next_token terms past

-- A value that is not stored changes nothing.
abbrev pub VoidsAreInert : Type 0
VoidsAreInert = (key : QKey) (token now : ℕ) (past : List Step) → IsInert past now (Void key token now)
