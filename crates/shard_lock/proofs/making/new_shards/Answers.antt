use Rattle.std.proofs.Common.{ℕ, ◌≡◌, ◌≤◌, ◌+◌, All, List, [], ◌∷◌, ◌++◌, length, length-append, Some, slice_get, vec_capacity, sym, ap, subst, ◌∙◌, arith}
use Rattle.std.proofs.lemmas.List.Elements.{All-append, All-cons, All-nil}
use Rattle.key_shard.specs.Past.{Terms}
use Rattle.key_shard.specs.Shards.{ShardView}
use Rattle.shard_lock.specs.Names.{IsNamed, terms_at}
use Rattle.shard_lock.proofs.PlaceLemmas.{placed_next}
use Rattle.shard_lock.proofs.making.new_shards.Goals as goal

pub loop-no-preserved : goal.loop-no-preserved
loop-no-preserved c =
    let shards = c.loop-no.shards.items in
    let new = c.in_ok-new_shard.field-0 in
    let all : (P : ShardView → Type 0) → All P shards → P new → All P (shards ++ new ∷ []) = λ P before here.
    All-append P shards (new ∷ []) before (All-cons P new [] here (All-nil P)) in
    let named : IsNamed (terms_at c.args.count c.args.room c.args.life c.args.rolls) new =
    let is = c.in_ok-new_shard.ensures.terms in
    is ∙ ap (terms_at c.args.count c.args.room c.args.life c.args.rolls) (sym (ap (λ (t : Terms). t.no) is)) in
    let Named : ShardView → Type 0 = IsNamed (terms_at c.args.count c.args.room c.args.life c.args.rolls) in
    let Counted : ShardView → Type 0 = λ s. s.terms.count ≡ c.args.count in
    let New : ShardView → Type 0 = λ s. s.history ≡ [] in
    let NoneOut : ShardView → Type 0 = λ s. s.out ≡ [] in
    let P : List ShardView → Type 0 = λ xs. (length xs ≡ c.loop-no.no + 1) × (c.args.count ≤ vec_capacity c.push_reserved.new.self)
    × All Named xs × All Counted xs × All New xs × All NoneOut xs
    × ((place : ℕ) (shard : ShardView) → slice_get xs place ≡ Some shard → shard.terms.no ≡ place) in
    subst P (sym c.push_reserved.ensures.items) (
      omega (arith, length-append shards (new ∷ []), c.loop-no.invariant.0),
      grind (arith, c.loop-no.invariant.1, c.push_reserved.ensures.capacity),
      all Named c.loop-no.invariant.2 named,
      all Counted c.loop-no.invariant.3 (ap (λ (t : Terms). t.count) c.in_ok-new_shard.ensures.terms),
      all New c.loop-no.invariant.4 c.in_ok-new_shard.ensures.new,
      all NoneOut c.loop-no.invariant.5 c.in_ok-new_shard.ensures.none_out,
      placed_next shards new c.loop-no.invariant.6 (let is = ap (λ (t : Terms). t.no) c.in_ok-new_shard.ensures.terms in
          omega (arith, is, c.loop-no.invariant.0)),
    )
