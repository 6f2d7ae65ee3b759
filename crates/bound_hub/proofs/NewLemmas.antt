-- A shard and a store that were just made are new.
use Rattle.std.proofs.Common.{ℕ, ◌≡◌, ◌≤◌, ◌==◌, Bool, true, false, cond, List, [], None, length, reverse, refl, sym, ap, subst, ◌∙◌, arith}
use Rattle.std.specs.List.{list_any}
use Rattle.std.proofs.lemmas.Bool.{false≢true}
use Rattle.rows_model.specs.Rows.{Tables}
use Rattle.key_shard.specs.declared.steps.Step.{Step}
use Rattle.key_shard.specs.Past.{entry}
use Rattle.key_shard.specs.Permit.{Permit, same_permit}
use Rattle.key_shard.specs.Shards.{ShardView}
use Rattle.sql_keeper.specs.declared.stores.Phase.{Phase}
use Rattle.sql_keeper.specs.Sessions.{is_open, may_commit}
use Rattle.sql_keeper.specs.Stores.{Ledger, StoreView, opened}
use Rattle.bound_hub.specs.Facts.{IsFirst, IsQuiet}
use Rattle.bound_hub.specs.Ties.{IsNewShard, IsNewStore}

-- one that has made no step and let no grant out
pub unused_is_new : (opening : Tables) (before : ℕ → List Step) (stopped : Bool) (shard : ShardView) → 1 ≤ shard.terms.first
    → before shard.terms.no ≡ [] → shard.history ≡ [] → shard.out ≡ [] → IsNewShard opening before stopped shard
unused_is_new opening before stopped shard from_one none unused none_out =
    let at_once : (P : List Step → Type 0) → P [] → P (before shard.terms.no) = λ P here. subst P (sym none) here in
    record {
      from_one = from_one;
      past_is = ap (λ (h : List Step). reverse h) unused ∙ sym none;
      quiet = at_once IsQuiet (λ key. (refl, refl));
      entries = λ key. at_once (λ past. IsFirst opening stopped key (entry key past)) tt;
      drawn = λ permit out. absurd (false≢true (sym (ap (λ (all : List Permit). list_any (same_permit permit) all) none_out) ∙ out));
    }

none_may : (b : Bool) → may_commit (cond b None None) ≡ false
none_may true = refl
none_may false = refl

-- and one that was just opened
pub opened_is_new : (store : StoreView) (begun failed most : ℕ) → store.ledger ≡ opened store.ledger.opening most → begun ≡ 0 → failed ≡ 0
    → IsNewStore begun failed store
opened_is_new store begun failed most is none_begun none_failed =
    let sessions : store.ledger.sessions ≡ [] = ap (λ (l : Ledger). l.sessions) is in
    record {
      none = ap (λ (l : Ledger). l.log) is;
      begun_is = ap (λ (l : List Phase). length l) sessions ∙ sym none_begun;
      closed = λ who. ap (λ (l : List Phase). is_open who l) sessions ∙ none_may (who.number == 0);
      failed_is = ap (λ (l : Ledger). l.failed) is ∙ sym none_failed;
      few = omega (arith, none_failed);
    }
