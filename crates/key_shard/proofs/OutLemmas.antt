-- The grants that are out, less one, and what of it follows.
use Rattle.std.proofs.Common.{◌≡◌, ◌<◌, ◌≤◌, ◌+◌, ◌&&◌, ◌||◌, ◌==◌, ℕ, Bool, true, false, not, cond, List, [], ◌∷◌, ◌++◌, Option, Some}
use Rattle.std.proofs.Common.{None, find, map, filter, refl, sym, ap, subst, ◌∙◌, inl, inr, arith}
use Rattle.std.specs.List.{All, list_any}
use Rattle.std.proofs.lemmas.Bool.{cases_Bool, and_parts, eqb-true, false≢true}
use Rattle.std.proofs.lemmas.Map.Views.{any-filter_same}
use Rattle.std.proofs.lemmas.List.Elements.{All-head, All-tail, All-filter, All-weaker}
use Rattle.rows_model.specs.declared.keys.QKey.{QKey}
use Rattle.rows_model.specs.declared.keys.Sid.{Sid}
use Rattle.rows_model.specs.Key.{same_key}
use Rattle.rows_model.proofs.SameKey.{same_key-true}
use Rattle.case_tables.specs.Compatibility.{same_way}
use Rattle.lease_table.specs.declared.records.Mode.{Mode}
use Rattle.lease_table.specs.declared.records.Mode.TheVariants.{Invalidate, Refresh, Delta}
use Rattle.lease_table.specs.Leases.{way_of, has_token, Leaves}
use Rattle.key_shard.specs.declared.bodies.Body.{Body}
use Rattle.key_shard.specs.declared.outs.Out.{Out}
use Rattle.key_shard.specs.declared.steps.Step.{Step}
use Rattle.key_shard.specs.Past.{Terms, quar_of}
use Rattle.key_shard.specs.Permit.{Permit, same_permit}
use Rattle.std.specs.Prelude.{OnSome}
use Rattle.lease_table.specs.declared.records.Lease.{Lease}
use Rattle.lease_table.specs.declared.records.Quar.{Quar}
use Rattle.lease_table.specs.Leases as leases
use Rattle.entry_table.specs.Entries.{Item}
use Rattle.key_shard.specs.declared.replies.How.{How}
use Rattle.key_shard.specs.declared.replies.How.TheVariants as hows
use Rattle.key_shard.specs.Answers.{WasGranted, IsAtHome, IsOf, FitsMode, OwesRelease, OwesReplace, ended_as}
use Rattle.key_shard.specs.Shards.{ShardView, is_out, without_permit, returned}
use Rattle.key_shard.specs.Kept.{Ties, PutsNone, IsKept, IsOut, AreHeld, is_for, places_for, places_of, terms_of, steps_of, permit_of, shown}
use Rattle.key_shard.proofs.KeptLemmas.{IsKept-after, IsOut-later, held-later}
use Rattle.key_shard.proofs.PlaceLemmas.{AddsNone, stood-still, places-less, places-some, place-one, place-two}

-- a test of what a map gives, and a test behind the map
pub any-map : {X Y : Type 0} (p : Y → Bool) (f : X → Y) (xs : List X) → list_any p (map f xs) ≡ list_any (λ x. p (f x)) xs
any-map p f [] = refl
any-map p f (x ∷ xs) = ap (λ b. p (f x) || b) (any-map p f xs)

filter-map-step : {X Y : Type 0} (f : X → Y) (b : Bool) (x : X) (xs : List X) (ys : List Y) → map f xs ≡ ys → map f (cond b (x ∷ xs) xs) ≡ cond b (f x ∷ ys) ys
filter-map-step f true x xs ys e = ap (λ l. f x ∷ l) e
filter-map-step f false x xs ys e = e

-- a filter before or behind a map
pub map-filter : {X Y : Type 0} (p : Y → Bool) (f : X → Y) (xs : List X) → map f (filter (λ x. p (f x)) xs) ≡ filter p (map f xs)
map-filter p f [] = refl
map-filter p f (x ∷ xs) =
    filter-map-step f (p (f x)) x (filter (λ y. p (f y)) xs) (filter p (map f xs)) (map-filter p f xs)

any-rest : (a b : Bool) → (a || b) ≡ true → a ≡ false → b ≡ true
any-rest true b h e = cc
any-rest false b h e = h

-- grants that say the same are one
same_mode : (a b : Mode) → same_way (way_of a) (way_of b) ≡ true → a ≡ b
same_mode Invalidate Invalidate h = refl
same_mode Invalidate Refresh h = cc
same_mode Invalidate Delta h = cc
same_mode Refresh Invalidate h = cc
same_mode Refresh Refresh h = refl
same_mode Refresh Delta h = cc
same_mode Delta Invalidate h = cc
same_mode Delta Refresh h = cc
same_mode Delta Delta h = refl

same_sid : (a b : Sid) → a.number ≡ b.number → a ≡ b
same_sid a b e = λ i. record { number = e i }

pub same_permit-true : (a b : Permit) → same_permit a b ≡ true → b ≡ a
same_permit-true a b h =
    let last = and_parts ((a.shard == b.shard) && same_key a.key b.key
    && (a.sid.number == b.sid.number) && same_way (way_of a.mode) (way_of b.mode)) (a.token == b.token) h in
    let modes = and_parts ((a.shard == b.shard) && same_key a.key b.key && (a.sid.number == b.sid.number)) (same_way (way_of a.mode) (way_of b.mode)) last.0 in
    let sids = and_parts ((a.shard == b.shard) && same_key a.key b.key) (a.sid.number == b.sid.number) modes.0 in
    let keys = and_parts (a.shard == b.shard) (same_key a.key b.key) sids.0 in
    let shard : a.shard ≡ b.shard = eqb-true _ _ keys.0 in
    let key : a.key ≡ b.key = same_key-true a.key b.key keys.1 in
    let sid : a.sid ≡ b.sid = same_sid a.sid b.sid (eqb-true _ _ sids.1) in
    let mode : a.mode ≡ b.mode = same_mode a.mode b.mode modes.1 in
    let token : a.token ≡ b.token = eqb-true _ _ last.1 in
    sym (λ i. record { shard = shard i; key = key i; sid = sid i; mode = mode i; token = token i })

-- what holds of each grant that is out holds of one that says the same
pub out-holds : (P : Permit → Type 0) (number : ℕ) (grant : Permit) (outs : List Out)
    → All (λ out. P (permit_of number out)) outs → list_any (λ out. same_permit grant (permit_of number out)) outs ≡ true → P grant
out-holds P number grant [] each h = absurd (false≢true h)
out-holds P number grant (out ∷ outs) each h =
    elim (cases_Bool (same_permit grant (permit_of number out))) [
      | inl same ↦ subst P (same_permit-true grant (permit_of number out) same) (All-head (λ o. P (permit_of number o)) out outs each)
      | inr apart ↦ out-holds P number grant outs (All-tail (λ o. P (permit_of number o)) out outs each)
          (any-rest (same_permit grant (permit_of number out)) (list_any (λ o. same_permit grant (permit_of number o)) outs) h apart)
    ]

-- a grant that is out is among those of the body
pub some-out : (body : Body) (grant : Permit) → is_out (shown body) grant ≡ true → list_any (λ out. same_permit grant (permit_of body.no out)) body.out ≡ true
some-out body grant out = sym (any-map (same_permit grant) (permit_of body.no) body.out) ∙ out

-- a grant that is out was granted, on a key that is the shard's
pub out-granted : (body : Body) (grant : Permit) → IsKept body
    → is_out (shown body) grant ≡ true → WasGranted (steps_of body) grant × IsAtHome (terms_of body) grant.key
out-granted body grant kept out =
    let each = All-weaker (IsOut (terms_of body) (steps_of body)) (λ o. WasGranted (steps_of body) (permit_of body.no o)
    × IsAtHome (terms_of body) o.key) (λ o was. (was.granted, was.at_home)) body.out kept.outs in
    out-holds (λ g. WasGranted (steps_of body) g × IsAtHome (terms_of body) g.key) body.no grant body.out each (some-out body grant out)

-- where the quarantine of a grant that is out stands, it is the grant's
pub out-stands : (body : Body) (grant : Permit) → IsKept body
    → is_out (shown body) grant ≡ true → (quar : Quar) → quar_of grant.key grant.token (steps_of body) ≡ Some quar → IsOf grant quar
out-stands body grant kept out =
    let each = All-weaker (IsOut (terms_of body) (steps_of body)) (λ o. (quar : Quar)
    → quar_of o.key o.token (steps_of body) ≡ Some quar → IsOf (permit_of body.no o) quar) (λ o was. was.stands) body.out kept.outs in
    out-holds (λ g. (quar : Quar) → quar_of g.key g.token (steps_of body) ≡ Some quar → IsOf g quar) body.no grant body.out each (some-out body grant out)

-- each that says the same may take so many places
abbrev pub MayTake : Body → Permit → ℕ → Type 0
MayTake body grant n = (out : Out) → same_permit grant (permit_of body.no out) ≡ true → n ≤ places_for (steps_of body) out

-- a grant that is out may take one place, and two where its quarantine stands
pub may-take-one : (body : Body) (grant : Permit) → MayTake body grant 1
may-take-one body grant out same = place-one (steps_of body) out

pub may-take-two : (body : Body) (grant : Permit) (quar : Quar) → quar_of grant.key grant.token (steps_of body) ≡ Some quar → MayTake body grant 2
may-take-two body grant quar stands out same =
    let is_so : permit_of body.no out ≡ grant = same_permit-true grant (permit_of body.no out) same in
    place-two (steps_of body) out quar (ap (λ (g : Permit). quar_of g.key g.token (steps_of body)) is_so ∙ stands)

-- so many places are kept for it
pub places-out : (body : Body) (grant : Permit) (n : ℕ) → MayTake body grant n → IsKept body → is_out (shown body) grant ≡ true → n ≤ body.promised
places-out body grant n may kept out =
    let some = places-some (steps_of body) (λ o. same_permit grant (permit_of body.no o)) n may body.out (some-out body grant out) in
    omega (arith, some, kept.promises)

-- two are kept for one whose quarantine stands
pub two-places : (body : Body) (grant : Permit) (quar : Quar) → quar_of grant.key grant.token (steps_of body) ≡ Some quar
    → IsKept body → is_out (shown body) grant ≡ true → 2 ≤ body.promised
two-places body grant quar stands kept out = places-out body grant 2 (may-take-two body grant quar stands) kept out

-- without a grant whose quarantine stands no longer, each quarantine that stands has a grant that is out
pub held-less : (number : ℕ) (past : List Step) (grant : Permit) (outs : List Out)
    → quar_of grant.key grant.token past ≡ None → AreHeld past outs → AreHeld past (filter (λ out. not (same_permit grant (permit_of number out))) outs)
held-less number past grant outs gone held key token quar e =
    any-filter_same (is_for key token) (λ out. not (same_permit grant (permit_of number out))) true other outs ∙ held key token quar e
  where
    no_more : key ≡ grant.key → token ≡ grant.token → ⊥
    no_more at_key at_token =
        let none : quar_of key token past ≡ None =
        ap (λ k. quar_of k token past) at_key ∙ ap (λ t. quar_of grant.key t past) at_token ∙ gone in
        let same : Some quar ≡ None = sym e ∙ none in cc

    other : (out : Out) → is_for key token out ≡ true → not (same_permit grant (permit_of number out)) ≡ true
    other out for =
        elim (cases_Bool (same_permit grant (permit_of number out))) [
          | inl same ↦
              let is_so : permit_of number out ≡ grant = same_permit-true grant (permit_of number out) same in
              let parts = and_parts (same_key key out.key) (out.token == token) for in
              absurd (no_more (same_key-true key out.key parts.0 ∙ ap (λ (p : Permit). p.key) is_so) (sym (eqb-true out.token token parts.1)
              ∙ ap (λ (p : Permit). p.token) is_so))
          | inr apart ↦ ap not apart
        ]

-- a step that takes a grant from those that are out, and gives back so many places
pub IsKept-returned : (old new : Body) (step : Step) (grant : Permit) (n : ℕ) → MayTake old grant n → AddsNone (steps_of old) step
    → quar_of grant.key grant.token (step ∷ steps_of old) ≡ None → IsKept old → is_out (shown old) grant ≡ true
    → new.out ≡ filter (λ out. not (same_permit grant (permit_of old.no out))) old.out → new.history.steps ≡ old.history.steps ++ step ∷ []
    → terms_of new ≡ terms_of old → Ties (terms_of old) (step ∷ steps_of old) new.entries.list new.leases new.next
    → new.no < new.count → new.promised + n ≡ old.promised → new.history.used + new.promised ≤ new.history.room → IsKept new
IsKept-returned old new step grant n may none gone kept out less pushed same ties one promised reserved =
    let stood = stood-still (terms_of old) (steps_of old) step none in
    let left : List Out = filter (λ o. not (same_permit grant (permit_of old.no o))) old.out in
    let fewer =
    places-less (terms_of old) (steps_of old) step (λ o. same_permit grant (permit_of old.no o)) n stood may old.out kept.outs (some-out old grant out) in
    let fits : places_of (step ∷ steps_of old) left ≤ new.promised = omega (arith, fewer, promised, kept.promises) in
    let outs = IsOut-later (terms_of old) (steps_of old) step stood left
    (All-filter (λ o. not (same_permit grant (permit_of old.no o))) (IsOut (terms_of old) (steps_of old)) old.out kept.outs) in
    let held = held-less old.no (step ∷ steps_of old) grant old.out gone (held-later (steps_of old) step none old.out kept.held) in
    IsKept-after old new step pushed same ties one (subst (All (IsOut (terms_of old) (step ∷ steps_of old))) (sym less) outs)
    (subst (AreHeld (step ∷ steps_of old)) (sym less) held) (subst (λ os. places_of (step ∷ steps_of old) os ≤ new.promised) (sym less) fits) reserved

-- what callers see behind it
pub view-returned : (old : Body) (terms : Terms) (history : List Step) (outs : List Out) (step : Step) (grant : Permit) → terms ≡ terms_of old
    → history ≡ old.history.steps ++ step ∷ [] → outs ≡ filter (λ out. not (same_permit grant (permit_of old.no out))) old.out
    → record { terms = terms; history = history; out = map (permit_of old.no) outs } ≡ returned (shown old) grant step
view-returned old terms history outs step grant same pushed less =
    let made : Terms → List Step → List Permit → ShardView = λ t h o. record { terms = t; history = h; out = o } in
    let out : map (permit_of old.no) outs ≡ without_permit grant (map (permit_of old.no) old.out) =
    ap (map (permit_of old.no)) less ∙ map-filter (λ g. not (same_permit grant g)) (permit_of old.no) old.out in
    ap (λ t. made t history (map (permit_of old.no) outs)) same
    ∙ ap (λ h. made (terms_of old) h (map (permit_of old.no) outs)) pushed
    ∙ ap (made (terms_of old) (old.history.steps ++ step ∷ [])) out

-- the quarantine of a token, as the table of leases tells it
pub stands-found : {terms : Terms} {past : List Step} {list : List Item} {table : List Lease} {next : ℕ} → Ties terms past list table next
    → (key : QKey) (token : ℕ) (key' : QKey) (token' : ℕ) (found : Option Quar)
    → key' ≡ key → token' ≡ token → found ≡ find (has_token token') (leases.quars key' table) → quar_of key token past ≡ found
stands-found {table = table} h key token key' token' found keys tokens e =
    sym (e ∙ ap (λ t. find (has_token t) (leases.quars key' table)) tokens
    ∙ ap (λ k. find (has_token token) (leases.quars k table)) keys ∙ ap (find (has_token token)) (h.quars key))

-- what the end of a quarantine that stands leaves
pub ended-leaves : {terms : Terms} {past : List Step} {list : List Item} {table : List Lease} {next : ℕ} → Ties terms past list table next
    → (key : QKey) (token : ℕ) (key' : QKey) (token' : ℕ) (found : Option Quar) (quar : Quar) (new : List Lease) → key' ≡ key → token' ≡ token
    → found ≡ find (has_token token') (leases.quars key' table)
    → OnSome found (Leaves key' (leases.recorded key' table) (filter (λ q. not (has_token token' q)) (leases.quars key' table)) table new)
    → quar_of key token past ≡ Some quar → Leaves key (leases.recorded key table) (filter (λ q. not (has_token token q)) (leases.quars key table)) table new
ended-leaves {table = table} h key token key' token' found quar new keys tokens e after stands =
    let some : found ≡ Some quar = sym (stands-found h key token key' token' found keys tokens e) ∙ stands in
    let leaves : Leaves key' (leases.recorded key' table) (filter (λ q. not (has_token token' q)) (leases.quars key' table)) table new =
    subst (λ o. OnSome o (Leaves key' (leases.recorded key' table) (filter (λ q. not (has_token token' q)) (leases.quars key' table)) table new)) some after in
    subst (λ t. Leaves key (leases.recorded key table) (filter (λ q. not (has_token t q)) (leases.quars key table)) table new) tokens
    (subst (λ k. Leaves k (leases.recorded k table) (filter (λ q. not (has_token token' q)) (leases.quars k table)) table new) keys leaves)

-- a release puts no value
pub puts-none : (quar : Quar) (how : How) → PutsNone (ended_as quar how)
puts-none quar hows.Keep = refl
puts-none quar hows.Drop = refl
puts-none quar (hows.Shift stamp) = refl

-- what a release and a replace owe of a grant that is out
pub owes-release : (body : Body) (grant : Permit) (how : How) (found : Option Quar) → IsKept body → is_out (shown body) grant ≡ true → FitsMode grant.mode how
    → quar_of grant.key grant.token (steps_of body) ≡ found → OwesRelease (steps_of body) grant how (quar_of grant.key grant.token (steps_of body))
owes-release body grant how found kept out fits e =
    subst (OwesRelease (steps_of body) grant how) (sym e) (by found e)
  where
    by : (o : Option Quar) → quar_of grant.key grant.token (steps_of body) ≡ o → OwesRelease (steps_of body) grant how o
    by None is = (out-granted body grant kept out).0
    by (Some quar) is =
        let of = out-stands body grant kept out quar is in
        (of, subst (λ m. FitsMode m how) (sym of.mode) fits)

pub owes-replace : (body : Body) (grant : Permit) (found : Option Quar) → IsKept body → is_out (shown body) grant ≡ true → grant.mode ≡ Refresh
    → quar_of grant.key grant.token (steps_of body) ≡ found → OwesReplace (steps_of body) grant (quar_of grant.key grant.token (steps_of body))
owes-replace body grant found kept out refresh e =
    subst (OwesReplace (steps_of body) grant) (sym e) (by found e)
  where
    by : (o : Option Quar) → quar_of grant.key grant.token (steps_of body) ≡ o → OwesReplace (steps_of body) grant o
    by None is = (out-granted body grant kept out).0
    by (Some quar) is = let of = out-stands body grant kept out quar is in (of, of.mode ∙ refresh)
