-- The grants that are out, as the map that has each at its token keeps them.
use Rattle.std.proofs.Common.{◌≡◌, ◌<◌, ◌&&◌, ◌||◌, ◌==◌, ℕ, Bool, true, false, not, cond, List, [], ◌∷◌, ◌++◌, Option, Some, None, map, filter}
use Rattle.std.proofs.Common.{refl, sym, ap, subst, ◌∙◌, inl, inr, arith}
use Rattle.std.specs.List.{All, AllByRecursion, list_any}
use Rattle.std.specs.List.Sorted.{IsStrictlySortedBy}
use Rattle.std.specs.Map.{keys_of, values_of, lookup, remove_entry, set_value}
use Rattle.std.specs.BTreeMap.{BTreeMap, insert_entry, is_at}
use Rattle.std.specs.Ordering.{nat_cmp, match_ordering}
use Rattle.std.specs.declared.cmp.Ordering.TheVariants.{Less, Greater}
use Rattle.std.specs.Cmp.{nat_cmp_is}
use Rattle.std.proofs.lemmas.Bool.{cases_Bool, and_from, and_parts, eq-eqb, eqb-true, false≢true}
use Rattle.std.proofs.lemmas.Bool.Decides.{nat_tests}
use Rattle.std.proofs.lemmas.Cmp.{ranked}
use Rattle.std.proofs.lemmas.List.{map_push}
use Rattle.std.proofs.lemmas.List.Elements.{All-nil, All-cons, All-head, All-tail, All-weaker, All-push}
use Rattle.std.proofs.lemmas.List.Folds.{list_any_none}
use Rattle.std.proofs.lemmas.Map.Entries.{lookup_head, lookup_tail}
use Rattle.std.proofs.lemmas.Map.Keys.{sorted_head, sorted_tail}
use Rattle.rows_model.specs.Key.{same_key}
use Rattle.case_tables.specs.Compatibility.{same_way}
use Rattle.lease_table.specs.Leases.{way_of}
use Rattle.lease_table.proofs.ListLemmas.{filter-not-all}
use Rattle.key_shard.specs.declared.outs.Out.{Out}
use Rattle.key_shard.specs.Permit.{Permit, same_permit}
use Rattle.key_shard.specs.Kept.{permit_of, is_for, raised_out}
use Rattle.rows_model.specs.declared.keys.QKey.{QKey}
use Rattle.lease_table.specs.declared.records.Mode.TheVariants.{Refresh}
use Rattle.key_shard.specs.Outs.{IsAtToken, AreByToken}

abbrev Entries : Type 0
Entries = List (ℕ × Out)

abbrev IsInOrder : Entries → Type 0
IsInOrder es = IsStrictlySortedBy nat_cmp (keys_of es)

-- what passes the test has the token
abbrev pub Names : (Out → Bool) → ℕ → Type 0
Names p token = (out : Out) → p out ≡ true → out.token ≡ token

-- what says the same as a grant has its token
pub token-named : (number : ℕ) (grant : Permit) → Names (λ out. same_permit grant (permit_of number out)) grant.token
token-named number grant out same =
    sym (eqb-true grant.token out.token (and_parts ((grant.shard == number) && same_key grant.key out.key
    && (grant.sid.number == out.sid.number) && same_way (way_of grant.mode) (way_of out.mode)) (grant.token == out.token) same).1)

-- ---- the order of tokens

here-token : (token key : ℕ) → is_at (nat_cmp token) key ≡ true → key ≡ token
here-token token key at = grind (arith, nat_tests)

apart-token : (token key : ℕ) → is_at (nat_cmp token) key ≡ false → key ≡ token → ⊥
apart-token token key at same = grind (arith, nat_tests)

-- of an entry that comes before the others the token lies below theirs
above-first : (low : ℕ) (es : Entries) → AllByRecursion (λ key. nat_cmp low key ≡ Less) (keys_of es)
    → All IsAtToken es → All (λ (out : Out). low < out.token) (values_of es)
above-first low [] before at = All-nil (λ (out : Out). low < out.token)
above-first low (e ∷ es) before at =
    let lower : low < e.0 = ranked low e.0 Less (sym before.0) in
    let same = All-head IsAtToken e es at in
    All-cons (λ (out : Out). low < out.token) e.1 (values_of es) (omega (arith, lower, same)) (above-first low es before.1 (All-tail IsAtToken e es at))

above : (e : ℕ × Out) (es : Entries) → IsInOrder (e ∷ es) → All IsAtToken (e ∷ es) → All (λ (out : Out). e.0 < out.token) (values_of es)
above e es ordered at =
    above-first e.0 es (sorted_head nat_cmp e.0 (keys_of es) ordered) (All-tail IsAtToken e es at)

-- what has the token of an entry isn't behind it
none-behind : (p : Out → Bool) (token : ℕ) → Names p token → (e : ℕ × Out) (es : Entries)
    → IsInOrder (e ∷ es) → All IsAtToken (e ∷ es) → e.0 ≡ token → All (λ out. p out ≡ false) (values_of es)
none-behind p token names e es ordered at here =
    All-weaker (λ (out : Out). e.0 < out.token) (λ out. p out ≡ false) fails (values_of es) (above e es ordered at)
  where
    fails : (out : Out) → e.0 < out.token → p out ≡ false
    fails out higher =
        elim (cases_Bool (p out)) [
          | inl passes ↦ let same = names out passes in absurd (omega (arith, higher, here, same))
          | inr other ↦ other
        ]

-- what has another token than an entry isn't the entry's
not-first : (p : Out → Bool) (token : ℕ) → Names p token → (e : ℕ × Out) → IsAtToken e → is_at (nat_cmp token) e.0 ≡ false → p e.1 ≡ false
not-first p token names e at apart =
    elim (cases_Bool (p e.1)) [
      | inl passes ↦ absurd (apart-token token e.0 apart (sym at ∙ names e.1 passes))
      | inr other ↦ other
    ]

-- ---- a grant is found by its token

abbrev pub passes : (Out → Bool) → Option Out → Bool
passes p None = false
passes p (Some out) = p out

or-none : (b : Bool) → (b || false) ≡ b
or-none true = refl
or-none false = refl

pub found-at : (p : Out → Bool) (token : ℕ) → Names p token → (es : Entries)
    → IsInOrder es → All IsAtToken es → list_any p (values_of es) ≡ passes p (lookup (is_at (nat_cmp token)) es)
found-at p token names [] ordered at = refl
found-at p token names (e ∷ es) ordered at =
    elim (cases_Bool (is_at (nat_cmp token) e.0)) [
      | inl here ↦
          let none = list_any_none p (values_of es) (none-behind p token names e es ordered at (here-token token e.0 here)) in
          ap (λ b. p e.1 || b) none ∙ or-none (p e.1) ∙ ap (passes p) (sym (lookup_head (is_at (nat_cmp token)) e es here))
      | inr apart ↦
          let first = not-first p token names e (All-head IsAtToken e es at) apart in
          ap (λ b. b || list_any p (values_of es)) first ∙ found-at p token names es (sorted_tail nat_cmp e.0 (keys_of es) ordered) (All-tail IsAtToken e es at)
          ∙ ap (passes p) (sym (lookup_tail (is_at (nat_cmp token)) e es apart))
    ]

-- ---- a grant is taken out by its token

any-first : (a b : Bool) → (a || b) ≡ true → b ≡ false → a ≡ true
any-first true b some none = refl
any-first false b some none = sym none ∙ some

any-rest : (a b : Bool) → (a || b) ≡ true → a ≡ false → b ≡ true
any-rest true b some first = absurd (false≢true (sym first))
any-rest false b some first = some

pub taken-at : (p : Out → Bool) (token : ℕ) → Names p token → (es : Entries) → IsInOrder es
    → All IsAtToken es → list_any p (values_of es) ≡ true → values_of (remove_entry (is_at (nat_cmp token)) es) ≡ filter (λ out. not (p out)) (values_of es)
taken-at p token names [] ordered at some = absurd (false≢true some)
taken-at p token names (e ∷ es) ordered at some =
    let left : Bool → List Out = λ b. values_of (cond b es (e ∷ remove_entry (is_at (nat_cmp token)) es)) in
    let kept : List Out = filter (λ out. not (p out)) (values_of es) in
    elim (cases_Bool (is_at (nat_cmp token) e.0)) [
      | inl here ↦
          let none = none-behind p token names e es ordered at (here-token token e.0 here) in
          let first = any-first (p e.1) (list_any p (values_of es)) some (list_any_none p (values_of es) none) in
          ap left here ∙ sym (ap (λ b. cond (not b) (e.1 ∷ kept) kept) first ∙ filter-not-all p (values_of es) none)
      | inr apart ↦
          let first = not-first p token names e (All-head IsAtToken e es at) apart in
          let rest = any-rest (p e.1) (list_any p (values_of es)) some first in
          ap left apart ∙ ap (λ outs. e.1 ∷ outs) (taken-at p token names es (sorted_tail nat_cmp e.0 (keys_of es) ordered) (All-tail IsAtToken e es at) rest)
          ∙ sym (ap (λ b. cond (not b) (e.1 ∷ kept) kept) first)
    ]

at_token-taken : (token : ℕ) (es : Entries) → All IsAtToken es → All IsAtToken (remove_entry (is_at (nat_cmp token)) es)
at_token-taken token [] at = at
at_token-taken token (e ∷ es) at =
    let rest = All-tail IsAtToken e es at in
    let left : Bool → Entries = λ b. cond b es (e ∷ remove_entry (is_at (nat_cmp token)) es) in
    elim (cases_Bool (is_at (nat_cmp token) e.0)) [
      | inl here ↦ subst (All IsAtToken) (sym (ap left here)) rest
      | inr apart ↦ subst (All IsAtToken) (sym (ap left apart))
          (All-cons IsAtToken e (remove_entry (is_at (nat_cmp token)) es) (All-head IsAtToken e es at) (at_token-taken token es rest))
    ]

pub AreByToken-taken : (old new : BTreeMap ℕ Out) (token : ℕ)
    → AreByToken old → new.entries ≡ remove_entry (is_at (nat_cmp token)) old.entries → IsInOrder new.entries → AreByToken new
AreByToken-taken old new token by less ordered = record {
  in_order = ordered;
  at_token = subst (All IsAtToken) (sym less) (at_token-taken token old.entries by.at_token);
}

-- ---- a grant of a higher token comes last

last-at : (out : Out) (es : Entries) → All (λ (other : Out). other.token < out.token) (values_of es)
    → All IsAtToken es → insert_entry nat_cmp es out.token out ≡ es ++ (out.token, out) ∷ []
last-at out [] below at = refl
last-at out (e ∷ es) below at =
    let lower = All-head (λ (other : Out). other.token < out.token) e.1 (values_of es) below in
    let same = All-head IsAtToken e es at in
    let under : e.0 < out.token = omega (arith, lower, same) in
    let higher : nat_cmp out.token e.0 ≡ Greater = sym (nat_cmp_is out.token e.0 Greater under) in
    ap (λ r. match_ordering r ((out.token, out) ∷ e ∷ es) ((e.0, out) ∷ es) (e ∷ insert_entry nat_cmp es out.token out)) higher
    ∙ ap (λ l. e ∷ l) (last-at out es (All-tail (λ (other : Out). other.token < out.token) e.1 (values_of es) below) (All-tail IsAtToken e es at))

values-last : (es : Entries) (e : ℕ × Out) → values_of (es ++ e ∷ []) ≡ values_of es ++ e.1 ∷ []
values-last es e = map_push (λ (d : ℕ × Out). d.1) es e

-- the map, before and after it was added
module _ (old new : BTreeMap ℕ Out) (out : Out) (by : AreByToken old)
    (below : All (λ (other : Out). other.token < out.token) (values_of old.entries)) (puts : new.entries ≡ insert_entry nat_cmp old.entries out.token out) where
  grown : new.entries ≡ old.entries ++ (out.token, out) ∷ []
  grown = puts ∙ last-at out old.entries below by.at_token

  pub values-added : values_of new.entries ≡ values_of old.entries ++ out ∷ []
  values-added = ap values_of grown ∙ values-last old.entries (out.token, out)

  pub AreByToken-added : IsInOrder new.entries → AreByToken new
  AreByToken-added ordered = record {
    in_order = ordered;
    at_token = subst (All IsAtToken) (sym grown) (All-push IsAtToken old.entries (out.token, out) by.at_token refl);
  }

-- ---- a grant is raised in its place

-- what passes is there
pub passes-some : (p : Out → Bool) (o : Option Out) → passes p o ≡ true → (out : Out) × (o ≡ Some out) × (p out ≡ true)
passes-some p None e = absurd (false≢true e)
passes-some p (Some out) e = (out, refl, e)

-- what is for a key and token has the token
for-named : (key : QKey) (token : ℕ) → Names (is_for key token) token
for-named key token out for = eqb-true out.token token (and_parts (same_key key out.key) (out.token == token) for).1

-- what says the same as a grant is for its key and token
pub same-for : (number : ℕ) (grant : Permit) (out : Out) → same_permit grant (permit_of number out) ≡ true → is_for grant.key grant.token out ≡ true
same-for number grant out same =
    let last = and_parts ((grant.shard == number) && same_key grant.key out.key
    && (grant.sid.number == out.sid.number) && same_way (way_of grant.mode) (way_of out.mode)) (grant.token == out.token) same in
    let modes = and_parts ((grant.shard == number) && same_key grant.key out.key && (grant.sid.number == out.sid.number))
    (same_way (way_of grant.mode) (way_of out.mode)) last.0 in
    let sids = and_parts ((grant.shard == number) && same_key grant.key out.key) (grant.sid.number == out.sid.number) modes.0 in
    and_from (same_key grant.key out.key) (out.token == grant.token) (and_parts (grant.shard == number) (same_key grant.key out.key) sids.0).1
    (eq-eqb out.token grant.token (sym (eqb-true grant.token out.token last.1)))

-- a grant in mode Refresh in the place of this one
abbrev pub lifted : Out → Out
lifted out = record { key = out.key; sid = out.sid; mode = Refresh; token = out.token }

raised-apart : (key : QKey) (token : ℕ) (out : Out) → is_for key token out ≡ false → raised_out key token out ≡ out
raised-apart key token out apart = ap (λ b. cond b (lifted out) out) apart

all-apart : (key : QKey) (token : ℕ) (outs : List Out) → All (λ out. is_for key token out ≡ false) outs → map (raised_out key token) outs ≡ outs
all-apart key token [] h = refl
all-apart key token (out ∷ outs) h =
    let here = raised-apart key token out (All-head (λ o. is_for key token o ≡ false) out outs h) in
    let rest = all-apart key token outs (All-tail (λ o. is_for key token o ≡ false) out outs h) in
    λ i. here i ∷ rest i

some_one : {a b : Out} → Some a ≡ Some b → a ≡ b
some_one e = cc

raised-at : (key : QKey) (token : ℕ) (out : Out) (es : Entries) → IsInOrder es → All IsAtToken es
    → lookup (is_at (nat_cmp token)) es ≡ Some out → is_for key token out ≡ true
    → values_of (set_value (is_at (nat_cmp token)) es (lifted out)) ≡ map (raised_out key token) (values_of es)
raised-at key token out [] ordered at found for = cc
raised-at key token out (e ∷ es) ordered at found for =
    let left : Bool → List Out = λ b. values_of (cond b ((e.0, lifted out) ∷ es) (e ∷ set_value (is_at (nat_cmp token)) es (lifted out))) in
    elim (cases_Bool (is_at (nat_cmp token) e.0)) [
      | inl here ↦
          let same : e.1 ≡ out = some_one (sym (lookup_head (is_at (nat_cmp token)) e es here) ∙ found) in
          let none = none-behind (is_for key token) token (for-named key token) e es ordered at (here-token token e.0 here) in
          let first : raised_out key token e.1 ≡ lifted out = ap (raised_out key token) same ∙ ap (λ b. cond b (lifted out) out) for in
          let rest = all-apart key token (values_of es) none in
          ap left here ∙ sym (λ i. first i ∷ rest i)
      | inr apart ↦
          let other = not-first (is_for key token) token (for-named key token) e (All-head IsAtToken e es at) apart in
          let first = raised-apart key token e.1 other in
          let rest = raised-at key token out es (sorted_tail nat_cmp e.0 (keys_of es) ordered) (All-tail IsAtToken e es at)
          (sym (lookup_tail (is_at (nat_cmp token)) e es apart) ∙ found) for in
          ap left apart ∙ (λ i. sym first i ∷ rest i)
    ]

at_token-raised : (token : ℕ) (out : Out) (es : Entries) → All IsAtToken es
    → lookup (is_at (nat_cmp token)) es ≡ Some out → All IsAtToken (set_value (is_at (nat_cmp token)) es (lifted out))
at_token-raised token out [] at found = at
at_token-raised token out (e ∷ es) at found =
    let rest = All-tail IsAtToken e es at in
    let left : Bool → Entries = λ b. cond b ((e.0, lifted out) ∷ es) (e ∷ set_value (is_at (nat_cmp token)) es (lifted out)) in
    elim (cases_Bool (is_at (nat_cmp token) e.0)) [
      | inl here ↦
          let same : e.1 ≡ out = some_one (sym (lookup_head (is_at (nat_cmp token)) e es here) ∙ found) in
          let first : IsAtToken (e.0, lifted out) = ap (λ (o : Out). o.token) (sym same) ∙ All-head IsAtToken e es at in
          subst (All IsAtToken) (sym (ap left here)) (All-cons IsAtToken (e.0, lifted out) es first rest)
      | inr apart ↦ subst (All IsAtToken) (sym (ap left apart))
          (All-cons IsAtToken e (set_value (is_at (nat_cmp token)) es (lifted out)) (All-head IsAtToken e es at)
          (at_token-raised token out es rest (sym (lookup_tail (is_at (nat_cmp token)) e es apart) ∙ found)))
    ]

-- the map, before and after the grant at a token was raised
module _ (old new : BTreeMap ℕ Out) (key : QKey) (token : ℕ) (out : Out) (by : AreByToken old)
    (found : lookup (is_at (nat_cmp token)) old.entries ≡ Some out) (writes : new.entries ≡ set_value (is_at (nat_cmp token)) old.entries (lifted out)) where
  pub values-raised : is_for key token out ≡ true → values_of new.entries ≡ map (raised_out key token) (values_of old.entries)
  values-raised for = ap values_of writes ∙ raised-at key token out old.entries by.in_order by.at_token found for

  pub AreByToken-raised : IsInOrder new.entries → AreByToken new
  AreByToken-raised ordered = record {
    in_order = ordered;
    at_token = subst (All IsAtToken) (sym writes) (at_token-raised token out old.entries by.at_token found);
  }
