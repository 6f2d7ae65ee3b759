-- Words of commands, and lists of them.
use Rattle.std.proofs.Common.{ℕ, ◌≡◌, ◌≤◌, ◌<◌, ◌+◌, ◌∙◌, List, [], ◌∷◌, ◌++◌, length, map, take, get_or, Option, Some, None, refl, sym, ap, ap₂, subst, arith, append_assoc}
use Rattle.std.specs.Prelude.{◌^◌, true, codes, decimal, Result, Ok, Err, IfOk, IfSome, IfNone}
use Rattle.std.specs.Global.{Vec}
use Rattle.std.specs.List.{All}
use Rattle.std.proofs.lemmas.List.{take_more, map-append, get_or-map, length-map}
use Rattle.std.proofs.lemmas.List.Elements.{All-append, All-cons, All-nil}
use Rattle.std.specs.List.{list_all}
use Rattle.std.proofs.lemmas.Fmt.{decimal_injective}
use Rattle.rows_model.specs.Shift.{is_digit}
use Rattle.rows_model.proofs.ShiftLemmas.{decimal_digits}
use Rattle.clap.proofs.OnLiterals.{clap_on_literals}
use Rattle.run_inputs.specs.declared.loads.WorkSpec.{WorkSpec}
use Rattle.run_inputs.specs.Words.{AreWork}
use Rattle.run_words.specs.declared.words.Conns.{Conns}
use Rattle.run_words.specs.declared.words.Conns.TheVariants.{Number, Forever}
use Rattle.run_words.specs.declared.words.ServeSpec.{ServeSpec}
use Rattle.run_words.specs.declared.words.Words.{Words}
use Rattle.run_words.specs.declared.words.Words.TheVariants as words
use Rattle.sql_keeper.specs.declared.keepers.Place.{Place}
use Rattle.sql_keeper.specs.declared.keepers.Place.TheVariants.{Fresh, File}
use Rattle.run_words.specs.Words.{AreCommand, AreServe, AreServeNumbers, AreWarm, AreWords, IsConns, IsPlainText, conns_word, most_served, path_in, warm_path, warm_words, with_options}

-- ---- a list that grows by one text

pub more_texts : {X Y : Type 0} (f : X → List ℕ) (g : Y → List ℕ) (front : List (List ℕ)) (xs : List X) (ys : List Y) (i : ℕ) (x : X) (y : Y)
    → i < length ys → y ≡ get_or ys i y → f x ≡ g y → map f xs ≡ front ++ map g (take i ys) → map f (xs ++ x ∷ []) ≡ front ++ map g (take (i + 1) ys)
more_texts f g front xs ys i x y below is same before =
    map-append f xs (x ∷ [])
    ∙ ap₂ (λ (texts : List (List ℕ)) (text : List ℕ). texts ++ text ∷ []) before (same ∙ ap g is)
    ∙ append_assoc front (map g (take i ys)) (g (get_or ys i y) ∷ [])
    ∙ ap (λ (texts : List (List ℕ)). front ++ texts) (sym (ap (map g) (take_more ys i y below) ∙ map-append g (take i ys) (get_or ys i y ∷ [])))

pub more_pass : {Y : Type 0} (P : List ℕ → Type 0) (g : Y → List ℕ) (ys : List Y) (i : ℕ) (y : Y)
    → i < length ys → y ≡ get_or ys i y → P (g y) → All P (map g (take i ys)) → All P (map g (take (i + 1) ys))
more_pass P g ys i y below is one before =
    subst (All P) (sym (ap (map g) (take_more ys i y below) ∙ map-append g (take i ys) (get_or ys i y ∷ [])))
    (All-append P (map g (take i ys)) (g (get_or ys i y) ∷ []) before
    (All-cons P (g (get_or ys i y)) [] (subst (λ z. P (g z)) is one) (All-nil P)))

-- one text that doesn't pass is enough
pub one_fails : {Y : Type 0} (P : List ℕ → Type 0) (g : Y → List ℕ) (ys : List Y) (i : ℕ) (y : Y)
    → i < length ys → y ≡ get_or ys i y → (P (g y) → ⊥) → All P (map g ys) → ⊥
one_fails P g ys i y below is bad all =
    let inside : i < length (map g ys) = subst (λ n. i < n) (sym (length-map ys g)) below in
    bad (subst P (get_or-map g ys i y (g y) below ∙ ap g (sym is)) (all i (g y) inside))

-- ---- a load, and then the next one

-- what is a load behind `work` is one behind `warm`
pub warm_found : {E : Type 0} (values : List (List ℕ)) (o : Result (Option WorkSpec) E)
    → IfOk o (λ found. IfSome found (AreWork (codes "work" ∷ values))) → IfOk o (λ found. IfSome found (AreWarm (codes "warm" ∷ values)))
warm_found values (Ok (Some spec)) is = record { numbers = values; written = refl; are_load = is }
warm_found values (Ok None) is = tt
warm_found values (Err e) is = tt

-- and what is none is none
pub warm_none : {E : Type 0} (values : List (List ℕ)) (o : Result (Option WorkSpec) E)
    → IfOk o (λ found. IfNone found ((spec : WorkSpec) → AreWork (codes "work" ∷ values) spec → ⊥))
    → IfOk o (λ found. IfNone found ((spec : WorkSpec) → AreWarm (codes "warm" ∷ values) spec → ⊥))
warm_none values (Ok (Some spec)) none = tt
warm_none values (Ok None) none = λ spec h.
    let written = h.written in
    let same : h.numbers ≡ values = cc in
    none spec (subst (λ (ws : List (List ℕ)). AreWork (codes "work" ∷ ws) spec) same h.are_load)
warm_none values (Err e) none = tt

-- where no load is behind `warm`, the words are no command
pub no_warm : (name : List ℕ) (values : List (List ℕ)) (place : Place) → name ≡ codes "warm" → ((spec : WorkSpec) → AreWarm (codes "warm" ∷ values) spec → ⊥)
    → (command : Words) → AreCommand (name ∷ values) place command → ⊥
no_warm name values place is none (words.Replay at) are =
    let second : 97 ≡ 101 = ap (λ (word : List ℕ). get_or word 1 0) (sym is ∙ ap (λ (all : List (List ℕ)). get_or all 0 []) are.1) in
    absurd (omega (arith, second))
no_warm name values place is none (words.Work at spec) are =
    let second : 97 ≡ 111 = ap (λ (word : List ℕ). get_or word 1 0) (sym is ∙ ap (λ (all : List (List ℕ)). get_or all 0 []) are.1.written) in
    absurd (omega (arith, second))
no_warm name values place is none (words.Warm at spec) are =
    none spec (subst (λ (first : List ℕ). AreWarm (first ∷ values) spec) is are.1)
no_warm name values place is none (words.Serve at spec) are =
    let second : 97 ≡ 101 = ap (λ (word : List ℕ). get_or word 1 0) (sym is ∙ ap (λ (all : List (List ℕ)). get_or all 0 []) are.1.written) in
    absurd (omega (arith, second))
no_warm name values place is none (words.Page text) are = are

-- ---- what is served

-- five texts, one by one
pub five_texts : {X : Type 0} (f : X → List ℕ) (d : X) (xs : List X) → 5 ≤ length xs → length xs < 6
    → map f xs ≡ f (get_or xs 0 d) ∷ f (get_or xs 1 d) ∷ f (get_or xs 2 d) ∷ f (get_or xs 3 d) ∷ f (get_or xs 4 d) ∷ []
five_texts f d [] least below = absurd (omega arith)
five_texts f d (a ∷ []) least below = absurd (omega arith)
five_texts f d (a ∷ x ∷ []) least below = absurd (omega arith)
five_texts f d (a ∷ x ∷ y ∷ []) least below = absurd (omega arith)
five_texts f d (a ∷ x ∷ y ∷ z ∷ []) least below = absurd (omega arith)
five_texts f d (a ∷ x ∷ y ∷ z ∷ w ∷ []) least below = refl
five_texts f d (a ∷ x ∷ y ∷ z ∷ w ∷ v ∷ more) least below = absurd (omega arith)

-- where the numbers are none, it is nothing
pub none_served : (values : List (List ℕ)) (a x y z w : List ℕ) (o : Option ServeSpec) → values ≡ a ∷ x ∷ y ∷ z ∷ w ∷ []
    → IfNone o ((spec : ServeSpec) → AreServeNumbers x y z w spec → ⊥) → IfNone o ((spec : ServeSpec) → AreServe (codes "serve" ∷ values) spec → ⊥)
none_served values a x y z w (Some spec) five none = tt
none_served values a x y z w None five none = λ spec h.
    let written = h.written in
    let fits = h.fits in
    none spec (record {
      conns_are = record { written = cc; within = fits.conns };
      workers_are = record { written = cc; from = fits.some_workers; to = fits.few_workers };
      shards_are = record { written = cc; from = fits.some_shards; to = fits.few_shards };
      members_are = record { written = cc; from = fits.some_members; to = fits.few_members };
    })

-- ---- how many connections are served

-- no number is written as the word `forever`
forever_none : (count : ℕ) → count < 2 ^ 64 → codes "forever" ≡ decimal count → ⊥
unfolding clap_on_literals
forever_none count small same =
    let digits : list_all is_digit (codes "forever") ≡ true = subst (λ (text : List ℕ). list_all is_digit text ≡ true) (sym same) (decimal_digits count small) in
    absurd cc

-- a word says one number of connections, or any
pub one_conns : (found other : Conns) → IsConns found → IsConns other → conns_word found ≡ conns_word other → found ≡ other
one_conns (Number a) (Number b) from to same =
    let low : a ≤ 1000000 = from.1 in
    let high : b ≤ 1000000 = to.1 in
    ap (λ (n : ℕ). Number n) (decimal_injective a b (omega (arith, low)) (omega (arith, high)) same)
one_conns (Number a) Forever from to same = let low : a ≤ 1000000 = from.1 in absurd (forever_none a (omega (arith, low)) (sym same))
one_conns Forever (Number b) from to same = let high : b ≤ 1000000 = to.1 in absurd (forever_none b (omega (arith, high)) same)
one_conns Forever Forever from to same = refl

-- ---- the file of a cache

-- a command that has one begins with `serve`
pub no_other : (name : List ℕ) (values : List (List ℕ)) (place : Place) (path : Option (List ℕ)) → (name ≡ codes "serve" → ⊥) → (path ≡ None → ⊥)
    → (command : Words) → AreCommand (name ∷ values) place command → warm_path command ≡ path → ⊥
no_other name values place path other some (words.Replay at) are is = some (sym is)
no_other name values place path other some (words.Work at spec) are is = some (sym is)
no_other name values place path other some (words.Warm at spec) are is = some (sym is)
no_other name values place path other some (words.Serve at spec) are is = other (ap (λ (all : List (List ℕ)). get_or all 0 []) are.1.written)
no_other name values place path other some (words.Page text) are is = are

-- a server that has an end may have one that can be named
pub file_added : (spec : ServeSpec) (warm : Option (Vec ℕ)) → IfSome (path_in warm) IsPlainText → (most_served spec.conns ≡ None → ⊥)
    → (words : List (List ℕ)) → AreServe words spec → AreServe words (record spec { warm = warm })
file_added spec warm plain end words h =
    let fits = h.fits in
    record {
      written = h.written;
      fits = record {
        address = fits.address;
        conns = fits.conns;
        some_workers = fits.some_workers;
        few_workers = fits.few_workers;
        some_shards = fits.some_shards;
        few_shards = fits.few_shards;
        some_members = fits.some_members;
        few_members = fits.few_members;
        warm = plain;
        ends = λ forever. absurd (end (ap most_served forever));
      };
    }

-- a server that has one has an end
has_end : (spec : ServeSpec) (path : List ℕ) → (spec.conns ≡ Forever → spec.warm ≡ None) → path_in spec.warm ≡ Some path
    → (conns : Conns) → spec.conns ≡ conns → most_served conns ≡ None → ⊥
has_end spec path ends is (Number count) same none = absurd cc
has_end spec path ends is Forever same none =
    let cold : path_in spec.warm ≡ None = ap path_in (ends same) in
    absurd cc

-- where its path can't be named, or a server without an end would have one, there is none
pub no_file : (found : ServeSpec) (path : List ℕ) → (IsPlainText path → most_served found.conns ≡ None)
    → (words : List (List ℕ)) → AreServe words found → (other : ServeSpec) → AreServe words other → path_in other.warm ≡ Some path → ⊥
no_file found path none words h other k is =
    let plain : IsPlainText path = subst (λ (o : Option (List ℕ)). IfSome o IsPlainText) is k.fits.warm in
    let written = sym h.written ∙ k.written in
    let same : found.conns ≡ other.conns = one_conns found.conns other.conns h.fits.conns k.fits.conns cc in
    has_end other path k.fits.ends is found.conns (sym same) (none plain)

-- ---- the words of two commands

-- words behind those of the file of a cache, that are as many, are the same, and so is the file
same_file : (warm other : Option (List ℕ)) (some others : List (List ℕ)) → length some ≡ length others
    → warm_words warm ++ some ≡ warm_words other ++ others → (warm ≡ other) × (some ≡ others)
same_file None None some others many same = (refl, same)
same_file (Some path) (Some file) some others many same = (cc, cc)
same_file None (Some file) some others many same =
    let lengths : length some ≡ length (codes "--warm" ∷ file ∷ others) = ap length same in
    absurd (omega (arith, many, lengths))
same_file (Some path) None some others many same =
    let lengths : length (codes "--warm" ∷ path ∷ some) ≡ length others = ap length same in
    absurd (omega (arith, many, lengths))

-- words with a place and words without one differ, where there are as many behind them
one_place : (path : List ℕ) (warm file : Option (List ℕ)) (x y : List ℕ) (xs ys : List (List ℕ)) → length xs ≡ length ys
    → x ∷ (warm_words warm ++ xs) ≡ y ∷ (codes "--db" ∷ path ∷ (warm_words file ++ ys)) → ⊥
one_place path None None x y xs ys many same =
    let lengths : length (x ∷ xs) ≡ length (y ∷ codes "--db" ∷ path ∷ ys) = ap length same in
    omega (arith, many, lengths)
one_place path None (Some file) x y xs ys many same =
    let lengths : length (x ∷ xs) ≡ length (y ∷ codes "--db" ∷ path ∷ codes "--warm" ∷ file ∷ ys) = ap length same in
    omega (arith, many, lengths)
one_place path (Some warm) file x y xs ys many same =
    let third : 119 ≡ 100 = ap (λ (all : List (List ℕ)). get_or (get_or all 1 []) 2 0) same in
    omega (arith, third)

-- behind those of their places too
same_options : (place other : Place) (warm file : Option (List ℕ)) (some others : List (List ℕ)) → 1 ≤ length some → length some ≡ length others
    → with_options place warm some ≡ with_options other file others → (place ≡ other) × ((warm ≡ file) × (some ≡ others))
same_options place other warm file [] others one many same = absurd (omega (arith, one))
same_options place other warm file (x ∷ xs) [] one many same = absurd (omega (arith, many))
same_options Fresh Fresh warm file (x ∷ xs) (y ∷ ys) one many same =
    let head : x ≡ y = cc in
    let tail : warm_words warm ++ xs ≡ warm_words file ++ ys = cc in
    let behind = same_file warm file xs ys (omega (arith, many)) tail in (refl, (behind.0, ap₂ (λ (z : List ℕ) (zs : List (List ℕ)). z ∷ zs) head behind.1))
same_options (File path) (File at) warm file (x ∷ xs) (y ∷ ys) one many same =
    let head : x ≡ y = cc in
    let place : path ≡ at = cc in
    let tail : warm_words warm ++ xs ≡ warm_words file ++ ys = cc in
    let behind = same_file warm file xs ys (omega (arith, many)) tail in
    (ap (λ (file : List ℕ). File file) place, (behind.0, ap₂ (λ (z : List ℕ) (zs : List (List ℕ)). z ∷ zs) head behind.1))
same_options Fresh (File at) warm file (x ∷ xs) (y ∷ ys) one many same = absurd (one_place at warm file x y xs ys (omega (arith, many)) same)
same_options (File path) Fresh warm file (x ∷ xs) (y ∷ ys) one many same = absurd (one_place path file warm y x ys xs (omega (arith, many)) (sym same))

-- two commands whose words are the same, and as many without those of their options, are at the same place, with the same file of a
-- cache
pub same_words : (spoken : List (List ℕ)) (found command : Words) (h : AreWords spoken found) (k : AreWords spoken command)
    → 1 ≤ length h.others → length h.others ≡ length k.others
    → (h.place ≡ k.place) × ((warm_path found ≡ warm_path command) × (h.others ≡ k.others))
same_words spoken found command h k one many =
    same_options h.place k.place (warm_path found) (warm_path command) h.others k.others one many (sym h.written ∙ k.written)

-- the words of options leave the first word where it is
pub stays_first : (place : Place) (warm : Option (List ℕ)) (others : List (List ℕ))
    → get_or (with_options place warm others) 0 [] ≡ get_or others 0 []
stays_first place warm [] = refl
stays_first place warm (first ∷ others) = refl
