-- What a sweeper wants, by what it was told.
use Rattle.std.proofs.Common.{◌≡◌, ◌<◌, ◌≤◌, ◌+◌, ◌%◌, ℕ, Bool, false, cond, ltb, suc, ◌⊎◌, List, [], ◌∷◌, refl, sym, ap, subst, ◌∙◌, inl, inr, arith}
use Rattle.std.specs.List.{count_by}
use Rattle.std.proofs.Math.Nat.{suc-mod, mod-lt, mod_self, mod-eq_of_lt, zero-mod, eq-or-lt_of_le}
use Rattle.std.proofs.lemmas.Bool.{cond_above, cond_below}
use Rattle.std.proofs.lemmas.List.Sums.{sum_by-cons}
use Rattle.expiry_sweeper.specs.declared.replies.SweepReply.{SweepReply}
use Rattle.expiry_sweeper.specs.declared.replies.SweepReply.TheVariants as SweepReply
use Rattle.expiry_sweeper.specs.declared.replies.SweepWanted.{SweepWanted}
use Rattle.expiry_sweeper.specs.declared.replies.SweepWanted.TheVariants as wanted
use Rattle.expiry_sweeper.specs.declared.sweepers.Stage.{Stage}
use Rattle.expiry_sweeper.specs.declared.sweepers.Stage.TheVariants as stages
use Rattle.expiry_sweeper.specs.declared.sweepers.Sweeper.{Sweeper}
use Rattle.expiry_sweeper.specs.Sweeps.{is_none_found, shard_at, drop_found, sweep_wants, BelongsTo, AreAnswers, IsWithin}
use Rattle.expiry_sweeper.specs.EndsFirst.{EndedFirst, EndsBeforeDrops}
use Rattle.expiry_sweeper.specs.Follows.{wanted_at, wanted_of, DropsFound, Follows}

-- a reply other than that none was found leaves the shard
pub shard-kept : (shards : ℕ) (reply : SweepReply) (before : List SweepReply)
    → is_none_found reply ≡ false → shard_at shards (reply ∷ before) ≡ shard_at shards before
shard-kept shards its_reply before other =
    let counted = sum_by-cons (λ reply. cond (is_none_found reply) 1 0) its_reply before in
    let one : Bool → ℕ = λ b. cond b 1 0 in
    let none : one (is_none_found its_reply) ≡ 0 = ap one other in
    let same : count_by is_none_found (its_reply ∷ before) ≡ count_by is_none_found before = omega (arith, counted, none) in
    ap (λ n. n % shards) same

-- where none was found, the next shard is swept, and shard 0 after the last
pub shard-none_found : (shards place : ℕ) (before : List SweepReply)
    → 0 < shards → shard_at shards (SweepReply.NoneFound place ∷ before) ≡ cond (ltb (shard_at shards before + 1) shards) (shard_at shards before + 1) 0
shard-none_found shards place before some =
    ap (λ n. n % shards) one ∙ suc-mod n shards ∙ by (eq-or-lt_of_le next)
  where
    n : ℕ
    n = count_by is_none_found before

    at : ℕ
    at = n % shards

    one : count_by is_none_found (SweepReply.NoneFound place ∷ before) ≡ suc n
    one =
        let counted = sum_by-cons (λ reply. cond (is_none_found reply) 1 0) (SweepReply.NoneFound place) before in
        omega (arith, counted)

    next : suc at ≤ shards
    next = let below = mod-lt n some in omega (arith, below)

    by : (suc at ≡ shards) ⊎ (suc at < shards) → suc at % shards ≡ cond (ltb (at + 1) shards) (at + 1) 0
    by (inl last) =
        let past : shards ≤ at + 1 = omega (arith, last) in
        ap (λ m. m % shards) last ∙ mod_self shards ∙ cond_above (at + 1) shards (at + 1) 0 0 past refl
    by (inr more) =
        let below : at + 1 < shards = omega (arith, more) in
        let same : suc at ≡ at + 1 = omega arith in
        mod-eq_of_lt more ∙ same ∙ cond_below (at + 1) shards (at + 1) 0 below

-- a scan that is wanted is of the shard that is being swept
pub scan-at : (shards : ℕ) (replies : List SweepReply) (shard : ℕ) → sweep_wants shards replies ≡ wanted.Scan shard → shard_at shards replies ≡ shard
scan-at shards [] shard e = zero-mod shards ∙ cc
scan-at shards (SweepReply.Found place due ∷ before) shard e = absurd cc
scan-at shards (SweepReply.NoneFound place ∷ before) shard e = cc
scan-at shards (SweepReply.Dropped rel ∷ before) shard e = shard-kept shards (SweepReply.Dropped rel) before refl ∙ cc
scan-at shards (SweepReply.Ended closed ∷ before) shard e = shard-kept shards (SweepReply.Ended closed) before refl ∙ by before e
  where
    by : (before : List SweepReply) → drop_found shards before ≡ wanted.Scan shard → shard_at shards before ≡ shard
    by [] e = cc
    by (SweepReply.Found place due ∷ rest) e = absurd cc
    by (SweepReply.NoneFound place ∷ rest) e = cc
    by (SweepReply.Dropped rel ∷ rest) e = cc
    by (SweepReply.Ended closed ∷ rest) e = cc

-- it is one of the shards
pub wants-within : (shards : ℕ) (replies : List SweepReply) → 0 < shards → IsWithin shards (sweep_wants shards replies)
wants-within shards replies some = by (sweep_wants shards replies) refl
  where
    by : (request : SweepWanted) → sweep_wants shards replies ≡ request → IsWithin shards request
    by (wanted.Scan shard) e =
        subst (λ n. n < shards) (scan-at shards replies shard e) (mod-lt (count_by is_none_found replies) some)
    by (wanted.End sid) e = tt
    by (wanted.Drop key token) e = tt

-- what is found belongs to a scan of its shard
found-scanned : (place : ℕ) (due : _) (request : SweepWanted) → BelongsTo request (SweepReply.Found place due) → request ≡ wanted.Scan place
found-scanned place due (wanted.Scan shard) h = ap wanted.Scan (sym h)
found-scanned place due (wanted.End sid) h = absurd h
found-scanned place due (wanted.Drop key token) h = absurd h

pub ends_before_drops : EndsBeforeDrops
ends_before_drops shards [] key token are e = absurd cc
ends_before_drops shards (SweepReply.Found place due ∷ replies) key token are e = absurd cc
ends_before_drops shards (SweepReply.NoneFound place ∷ replies) key token are e = absurd cc
ends_before_drops shards (SweepReply.Dropped rel ∷ replies) key token are e = absurd cc
ends_before_drops shards (SweepReply.Ended closed ∷ replies) key token are e = by replies are e
  where
    by : (replies : List SweepReply) → AreAnswers shards (SweepReply.Ended closed ∷ replies)
        → drop_found shards replies ≡ wanted.Drop key token → EndedFirst shards (SweepReply.Ended closed ∷ replies) key token
    by [] are e = absurd cc
    by (SweepReply.NoneFound place ∷ before) are e = absurd cc
    by (SweepReply.Dropped rel ∷ before) are e = absurd cc
    by (SweepReply.Ended had ∷ before) are e = absurd cc
    by (SweepReply.Found place due ∷ before) are e =
        record {
          due = due;
          closed = closed;
          at = place;
          before = before;
          last = refl;
          of_key = cc;
          of_token = cc;
          scanned = found-scanned place due (sweep_wants shards before) are.1.0;
          ended = are.0;
        }

-- the shard behind the one that is being swept
abbrev pub next_of : Sweeper → ℕ
next_of sweeper = cond (ltb (sweeper.shard + 1) sweeper.shards) (sweeper.shard + 1) 0

-- a sweeper that found none, and goes on to the next shard
pub follows_none_found : (old new : Sweeper) (place : ℕ) (before : List SweepReply) → wanted_of old ≡ wanted.Scan old.shard
    → new.shards ≡ old.shards → new.shard ≡ next_of old → new.stage ≡ old.stage → Follows old before → Follows new (SweepReply.NoneFound place ∷ before)
follows_none_found old new place before scans shards shard stage follows = record {
  shard = here;
  wants = there.0 ∙ ap wanted.Scan here;
  drops = there.1;
}
  where
    here : new.shard ≡ shard_at new.shards (SweepReply.NoneFound place ∷ before)
    here =
        let some : 0 < old.shards = omega (arith, old.within) in
        shard ∙ ap (λ n. cond (ltb (n + 1) old.shards) (n + 1) 0) follows.shard
        ∙ sym (shard-none_found old.shards place before some) ∙ ap (λ n. shard_at n (SweepReply.NoneFound place ∷ before)) (sym shards)

    by : (at : Stage) → wanted_at old.shard at ≡ wanted.Scan old.shard
        → (wanted_at new.shard at ≡ wanted.Scan new.shard) × DropsFound new.shards at (SweepReply.NoneFound place ∷ before)
    by stages.Scanning h = (refl, tt)
    by (stages.Ending due) h = absurd cc
    by (stages.Dropping due) h = absurd cc

    there : (wanted_of new ≡ wanted.Scan new.shard) × DropsFound new.shards new.stage (SweepReply.NoneFound place ∷ before)
    there =
        subst (λ at. (wanted_at new.shard at ≡ wanted.Scan new.shard) × DropsFound new.shards at (SweepReply.NoneFound place ∷ before)) (sym stage)
        (by old.stage scans)
