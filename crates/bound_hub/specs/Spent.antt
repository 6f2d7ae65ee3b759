-- What a pass has seen of a shard, and that the shard has no token left.
use Rattle.std.specs.Prelude.{ℕ, ◌≡◌, ◌-◌, ◌^◌, List, ◌++◌}
use Rattle.key_shard.specs.declared.replies.ShardFault.{ShardFault}
use Rattle.key_shard.specs.declared.replies.ShardFault.TheVariants as faults
use Rattle.key_shard.specs.declared.steps.Step.{Step}
use Rattle.key_shard.specs.Past.{Terms, next_token}
use Rattle.key_shard.specs.Shards.{ShardView, past_of}
use Rattle.log_word.specs.declared.seen.Seen.{Seen}
use Rattle.log_word.specs.Lists.{IsStart, steps_of}
use Rattle.bound_hub.specs.Shorts.{shorts_of}

-- Each step that the shard made since those before is seen.
pub record HasSeenAll (before : List Step) (shard : ShardView) (seen : Seen) : Type 0 where
  pub more : List Step
  pub goes_on : past_of shard ≡ more ++ before
  pub shorts_are : steps_of shard.terms.no seen.steps ≡ shorts_of before more

-- A shard that refused for want of a token has none left: the next one would be the last number.
abbrev pub HasNoToken : ShardView → ShardFault → Type 0
HasNoToken shard (faults.Spent next) = next_token shard.terms (past_of shard) ≡ 2 ^ 64 - 1
HasNoToken shard other = Unit {0}

-- It is seen that the shard of this number, which is made with these terms, has no token left after the steps before and
-- the first of those that are seen.
pub record IsSeenSpent (terms : Terms) (before : List Step) (number : ℕ) (seen : Seen) : Type 0 where
  pub more : List Step
  pub shorts_are : IsStart (shorts_of before more) (steps_of number seen.steps)
  pub last : next_token terms (more ++ before) ≡ 2 ^ 64 - 1

-- Where the shard of this number refused for want of a token, that is seen.
abbrev pub SeesSpent : (ℕ → Terms) → (ℕ → List Step) → ℕ → Seen → ShardFault → Type 0
SeesSpent terms before number seen (faults.Spent next) = IsSeenSpent (terms number) (before number) number seen
SeesSpent terms before number seen other = Unit {0}
