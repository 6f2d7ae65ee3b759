-- Words that ask for a load.
use Rattle.std.proofs.Common.{ℕ, ◌≡◌, ◌≤◌, ◌<◌, ◌^◌, List, [], ◌∷◌, length, get_or, map, decimal, Option, Some, None, refl, sym, ap, ◌∙◌, arith}
use Rattle.std.specs.Prelude.{codes, IfSome, IfNone}
use Rattle.rows_model.specs.Shift.{number_in}
use Rattle.rows_model.proofs.ShiftLemmas.{number_in-decimal}
use Rattle.run_inputs.specs.declared.loads.WorkSpec.{WorkSpec}
use Rattle.run_inputs.specs.Words.{AreWork}
use Rattle.run_inputs.specs.Parsing.{AreNumbers, IsNumberWithin}

-- a word that is no number is none within a range of small ones
pub no_number : (word : List ℕ) (least most : ℕ) → most < 2 ^ 32 → number_in word ≡ None → (number : ℕ) → IsNumberWithin word least most number → ⊥
no_number word least most small none number h =
    let below : number < 2 ^ 64 = (let to = h.to in omega arith) in
    let read : number_in word ≡ Some number = ap number_in h.written ∙ number_in-decimal number below in
    cc

-- and a word is one number
pub one_number : (word : List ℕ) (least most this number : ℕ)
    → most < 2 ^ 32 → number_in word ≡ Some this → IsNumberWithin word least most number → number ≡ this
one_number word least most this number small found h =
    let below : number < 2 ^ 64 = (let to = h.to in omega arith) in
    let read : number_in word ≡ Some number = ap number_in h.written ∙ number_in-decimal number below in
    cc

-- nor is it the decimal of any
pub no_decimal : (word : List ℕ) → number_in word ≡ None → (number : ℕ) → number < 2 ^ 64 → word ≡ decimal number → ⊥
no_decimal word none number below written =
    let read : number_in word ≡ Some number = ap number_in written ∙ number_in-decimal number below in
    cc

-- six words
pub six : {X : Type 0} (xs : List X) (a b c d e f : X) → length xs ≡ 6
    → a ≡ get_or xs 0 a → b ≡ get_or xs 1 b → c ≡ get_or xs 2 c → d ≡ get_or xs 3 d → e ≡ get_or xs 4 e → f ≡ get_or xs 5 f → xs ≡ a ∷ b ∷ c ∷ d ∷ e ∷ f ∷ []
six [] a b c d e f n p q r s t u = absurd (omega arith)
six (x ∷ []) a b c d e f n p q r s t u = absurd (omega arith)
six (x ∷ y ∷ []) a b c d e f n p q r s t u = absurd (omega arith)
six (x ∷ y ∷ z ∷ []) a b c d e f n p q r s t u = absurd (omega arith)
six (x ∷ y ∷ z ∷ v ∷ []) a b c d e f n p q r s t u = absurd (omega arith)
six (x ∷ y ∷ z ∷ v ∷ w ∷ []) a b c d e f n p q r s t u = absurd (omega arith)
six (x ∷ y ∷ z ∷ v ∷ w ∷ k ∷ []) a b c d e f n p q r s t u = cc
six (x ∷ y ∷ z ∷ v ∷ w ∷ k ∷ more ∷ xs) a b c d e f n p q r s t u = absurd (omega arith)

-- the word `work` and five others
pub work_and_five : {X : Type 0} (items : X → List ℕ) (xs : List X) (x y z v w k : X) (a b c d e : List ℕ) → xs ≡ x ∷ y ∷ z ∷ v ∷ w ∷ k ∷ []
    → items x ≡ codes "work" → a ≡ items y → b ≡ items z → c ≡ items v → d ≡ items w → e ≡ items k → map items xs ≡ codes "work" ∷ a ∷ b ∷ c ∷ d ∷ e ∷ []
work_and_five items xs x y z v w k a b c d e all first p q r s t = rw (all, first, p, q, r, s, t) refl

-- what an option holds, by another fact
pub some_by : {X : Type 0} (o : Option X) (P Q : X → Type 0) → IfSome o P → ((x : X) → P x → Q x) → IfSome o Q
some_by None P Q h f = tt
some_by (Some x) P Q h f = f x h

-- the word `work` and five words that are the numbers of a load
pub works : (words : List (List ℕ)) (a b c d e : List ℕ) → words ≡ codes "work" ∷ a ∷ b ∷ c ∷ d ∷ e ∷ []
    → (spec : WorkSpec) → AreNumbers a b c d e spec → AreWork words spec
works words a b c d e six spec h =
    record {
      written = rw (six, h.members_are.written, h.sessions_are.written, h.workers_are.written, h.shards_are.written, h.seed_is) refl;
      fits = record {
        some_members = h.members_are.from;
        few_members = h.members_are.to;
        few_sessions = h.sessions_are.to;
        some_workers = h.workers_are.from;
        few_workers = h.workers_are.to;
        some_shards = h.shards_are.from;
        few_shards = h.shards_are.to;
      };
      seed_below = h.seed_below;
    }

-- and back
pub numbers : (words : List (List ℕ)) (a b c d e : List ℕ) → words ≡ codes "work" ∷ a ∷ b ∷ c ∷ d ∷ e ∷ []
    → (spec : WorkSpec) → AreWork words spec → AreNumbers a b c d e spec
numbers words a b c d e six spec h =
    let written = h.written in
    let fits = h.fits in
    record {
      members_are = record { written = cc; from = fits.some_members; to = fits.few_members };
      sessions_are = record { written = cc; from = omega arith; to = fits.few_sessions };
      workers_are = record { written = cc; from = fits.some_workers; to = fits.few_workers };
      shards_are = record { written = cc; from = fits.some_shards; to = fits.few_shards };
      seed_is = cc;
      seed_below = h.seed_below;
    }

-- two numbers with one decimal are one
one_decimal : (m n : ℕ) → m < 2 ^ 64 → n < 2 ^ 64 → decimal m ≡ decimal n → m ≡ n
one_decimal m n low high e =
    let first = number_in-decimal m low in
    let second = number_in-decimal n high in
    let same : number_in (decimal m) ≡ number_in (decimal n) = ap number_in e in
    cc

-- small ones too
one_small : (word : List ℕ) (least most m n : ℕ) → most < 2 ^ 32 → IsNumberWithin word least most m → IsNumberWithin word least most n → m ≡ n
one_small word least most m n small h k =
    let low : m ≤ most = h.to in
    let high : n ≤ most = k.to in
    one_decimal m n (omega arith) (omega arith) (sym h.written ∙ k.written)

-- loads with the same five numbers are one
same_load : (spec other : WorkSpec) → spec.members ≡ other.members
    → spec.sessions ≡ other.sessions → spec.workers ≡ other.workers → spec.shards ≡ other.shards → spec.seed ≡ other.seed → spec ≡ other
same_load spec other p q r s t =
    let with : ℕ → ℕ → ℕ → ℕ → ℕ → WorkSpec = λ m n w k d. record { members = m; sessions = n; workers = w; shards = k; seed = d } in
    let e : with spec.members spec.sessions spec.workers spec.shards spec.seed ≡ with other.members other.sessions other.workers other.shards other.seed = cc in
    e

-- five words are the numbers of one load at most
one_load : (a b c d e : List ℕ) (spec other : WorkSpec) → AreNumbers a b c d e spec → AreNumbers a b c d e other → spec ≡ other
one_load a b c d e spec other h k =
    let members = one_small a 1 100000 _ _ (omega arith) h.members_are k.members_are in
    let sessions = one_small b 0 500000 _ _ (omega arith) h.sessions_are k.sessions_are in
    let workers = one_small c 1 1024 _ _ (omega arith) h.workers_are k.workers_are in
    let shards = one_small d 1 64 _ _ (omega arith) h.shards_are k.shards_are in
    let seed = one_decimal _ _ h.seed_below k.seed_below (sym h.seed_is ∙ k.seed_is) in
    same_load spec other members sessions workers shards seed

-- so what they are is told
pub told_by : (o : Option WorkSpec) (a b c d e : List ℕ) → IfSome o (AreNumbers a b c d e)
    → IfNone o ((spec : WorkSpec) → AreNumbers a b c d e spec → ⊥) → (spec : WorkSpec) → AreNumbers a b c d e spec → o ≡ Some spec
told_by None a b c d e h none spec k = absurd (none spec k)
told_by (Some found) a b c d e h none spec k = ap (λ (x : WorkSpec). Some x) (one_load a b c d e found spec h k)
