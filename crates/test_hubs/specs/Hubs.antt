-- What a new hub of tests is made of.
use Rattle.std.specs.Prelude.{ℕ, ◌≡◌, List, [], false, Option, Some}
use Rattle.rows_model.specs.Rows.{Tables}
use Rattle.key_shard.specs.declared.steps.Step.{Step}
use Rattle.key_shard.specs.Past.{Terms}
use Rattle.session_client.specs.declared.plans.Shape.{Shape}
use Rattle.sql_keeper.specs.Stores.{StoreView, opened}
use Rattle.shard_lock.specs.Names.{terms_at, IsNamedStore}
use Rattle.log_word.specs.Passes.{WordView, PassView, ShardPassView, blind_pass, blind_shard_passes}

-- A ledger with a part for each of so many shards, and a word for them, with its passes, which have seen nothing.
pub record IsMadeFor (shards parts : ℕ) (word : WordView) (store : PassView) (passes : List ShardPassView) (caller : PassView) : Type 0 where
  pub one_each : parts ≡ shards
  pub of_shards : word.shards ≡ shards
  pub store_pass : store ≡ blind_pass word
  pub shard_passes : passes ≡ blind_shard_passes word shards
  pub caller_pass : caller ≡ blind_pass word

-- What is named is a new hub of this shape: its shards' terms, the store as it was opened, and a word. There was nothing
-- before.
pub record IsNewHub (word : WordView) (before : ℕ → List Step) (begun failed : ℕ) (terms : ℕ → Terms) (opening : Tables) (cap : ℕ)
    (known_rows : Option Tables) (start : Option ℕ) (shape : Shape) (store : StoreView) (its_word : WordView) : Type 0 where
  pub terms_are : terms ≡ terms_at shape.shards shape.room shape.life false
  pub named : IsNamedStore opening cap known_rows start store
  pub start_is : start ≡ Some store.faults
  pub opened_is : store.ledger ≡ opened store.ledger.opening 8000000
  pub word_is : its_word ≡ word
  pub none_before : (place : ℕ) → before place ≡ []
  pub none_begun : begun ≡ 0
  pub none_failed : failed ≡ 0
