-- Rows that are made of lists, a pair after the other.
use Rattle.std.proofs.Common.{◌≡◌, ℕ, ◌+◌, ◌<◌, ◌≤◌, Bool, true, false, not, List, [], ◌∷◌, ◌++◌, length, get_or, take, drop, All, AllPairs, Result, Ok, Err, refl, sym, ap, subst, ◌∙◌, add-one, arith}
use Rattle.std.specs.Prelude.{◌||◌, cond, count_by}
use Rattle.std.specs.List.{list_any, insert}
use Rattle.std.proofs.Math.Seq.{take-suc, take-length, drop-length}
use Rattle.std.proofs.lemmas.Bool.{eq-eqb, lt-ltb, false≢true}
use Rattle.std.proofs.lemmas.Bool.Decides.{nat_tests}
use Rattle.std.proofs.lemmas.List.{get_or-take, get_or_default, length-take}
use Rattle.std.proofs.lemmas.List.Elements.{All-head, All-tail}
use Rattle.rows_model.specs.declared.changes.Change.{Change}
use Rattle.rows_model.specs.declared.changes.Change.TheVariants.{Invite, Accept}
use Rattle.rows_model.specs.declared.rows.Link.{Link}
use Rattle.rows_model.specs.declared.rows.LinkState.TheVariants as link
use Rattle.rows_model.specs.declared.rows.Member.{Member}
use Rattle.rows_model.specs.Rows.{Tables, Fit, joins}
use Rattle.rows_model.specs.Changes.{applies, changed, apply_from, apply_all, with_link, without_link, invitation, friendship, is_before}
use Rattle.rows_model.proofs.ApplyLemmas.{apply_all_is}
use Rattle.rows_model.proofs.FitLemmas.{invite_parts, count_cons}
use Rattle.rows_model.proofs.UntouchedLemmas.{filter_insert}
use Rattle.sqlite_tables.specs.declared.pairs.Pair.{Pair}
use Rattle.sqlite_tables.specs.declared.pairs.PairState.TheVariants.{Friend}
use Rattle.sqlite_tables.specs.Lists.{Lists, IsPairBefore, is_pair_before, with_pair, tables_of}
use Rattle.sqlite_tables.specs.Changes.{lists_after, paired}
use Rattle.sqlite_tables.proofs.ChangeLemmas.{changes_are_made}
use Rattle.sqlite_tables.proofs.TableLemmas.{link_put}

-- one change that was made applied, and led to the rows
abbrev Made : Change → Tables → Tables → Type 0
Made c rows after = (applies c rows ≡ true) × (changed c rows ≡ after)

one_go : (c : Change) (rows after : Tables) (b : Bool) → applies c rows ≡ b → apply_from 0 (c ∷ []) rows ≡ Ok after → Made c rows after
one_go c rows after true eb e = (eb, let x : ◌≡◌ {A = Result Tables ℕ} (Ok (changed c rows)) (Ok after) = rw eb at e in cc)
one_go c rows after false eb e = absurd (let x : ◌≡◌ {A = Result Tables ℕ} (Err 0) (Ok after) = rw eb at e in cc)

made_alone : (c : Change) (rows after : Tables) → apply_all (c ∷ []) rows ≡ Ok after → Made c rows after
made_alone c rows after e = one_go c rows after (applies c rows) refl (sym (apply_all_is (c ∷ []) rows) ∙ e)

-- and two, one after the other
second_go : (c d : Change) (rows after : Tables) (b : Bool) → applies c rows ≡ true → applies d (changed c rows) ≡ b → apply_from 0 (c ∷ d ∷ []) rows ≡ Ok after
    → changed d (changed c rows) ≡ after
second_go c d rows after true ec ed e = let x : ◌≡◌ {A = Result Tables ℕ} (Ok (changed d (changed c rows))) (Ok after) = rw (ec, ed) at e in cc
second_go c d rows after false ec ed e = absurd (let x : ◌≡◌ {A = Result Tables ℕ} (Err 1) (Ok after) = rw (ec, ed) at e in cc)

first_go : (c d : Change) (rows after : Tables) (b : Bool) → applies c rows ≡ b → apply_from 0 (c ∷ d ∷ []) rows ≡ Ok after
    → (applies c rows ≡ true) × (changed d (changed c rows) ≡ after)
first_go c d rows after true ec e = (ec, second_go c d rows after (applies d (changed c rows)) ec refl e)
first_go c d rows after false ec e = absurd (let x : ◌≡◌ {A = Result Tables ℕ} (Err 0) (Ok after) = rw ec at e in cc)

made_both : (c d : Change) (rows after : Tables) → apply_all (c ∷ d ∷ []) rows ≡ Ok after → (applies c rows ≡ true) × (changed d (changed c rows) ≡ after)
made_both c d rows after e = first_go c d rows after (applies c rows) refl (sym (apply_all_is (c ∷ d ∷ []) rows) ∙ e)

-- a change of rows that lists tell leads to those that the lists after it tell
pub put_one : (c : Change) (lists : Lists) (rows after : Tables) → rows ≡ tables_of lists → AllPairs IsPairBefore lists.pairs → Fit rows → apply_all (c ∷ []) rows ≡ Ok after
    → after ≡ tables_of (lists_after c lists)
put_one c lists rows after is order fit e =
    let made = made_alone c (tables_of lists) after (rw is at e) in
    sym ((changes_are_made c lists order (subst Fit is fit) made.0).1 ∙ made.1)

-- links of which none joins the two are kept
kept_go : (a b : ℕ) (l : Link) (ls : List Link) (c : Bool) → joins a b l ≡ c → (joins a b l || list_any (joins a b) ls) ≡ false
    → (list_any (joins a b) ls ≡ false → without_link a b ls ≡ ls) → without_link a b (l ∷ ls) ≡ l ∷ ls
kept_go a b l ls true ec e rest = absurd (false≢true (sym (rw ec at e)))
kept_go a b l ls false ec e rest = rw ec (ap (λ (xs : List Link). l ∷ xs) (rest (rw ec at e)))

kept_links : (a b : ℕ) (ls : List Link) → list_any (joins a b) ls ≡ false → without_link a b ls ≡ ls
kept_links a b [] e = refl
kept_links a b (l ∷ ls) e = kept_go a b l ls (joins a b l) refl e (kept_links a b ls)

-- an invitation that was put is taken out
taken_back : (a b : ℕ) (ls : List Link) → list_any (joins a b) ls ≡ false → without_link a b (with_link (invitation a b) ls) ≡ ls
taken_back a b ls none =
    let joined : not (joins a b (invitation a b)) ≡ false = rw (eq-eqb a a refl, eq-eqb b b refl) refl in
    filter_insert (λ l. not (joins a b l)) ls (count_by (is_before (invitation a b)) ls) (invitation a b) joined ∙ kept_links a b ls none

friend_is : (a b : ℕ) → a < b → friendship a b ≡ record { a = a; b = b; state = link.Friend }
friend_is a b less = rw (lt-ltb a b less) refl

pub put_friends : (a b : ℕ) (lists : Lists) (rows after : Tables) → rows ≡ tables_of lists → AllPairs IsPairBefore lists.pairs → a < b
    → apply_all (Invite a b ∷ Accept a b ∷ []) rows ≡ Ok after → after ≡ tables_of (with_pair (paired a b Friend) lists)
put_friends a b lists rows after is order less e =
    let made = made_both (Invite a b) (Accept a b) (tables_of lists) after (rw is at e) in
    let parts = invite_parts a b (tables_of lists) made.0 in
    let links = (tables_of lists).links in
    let back = taken_back a b links parts.free in
    let put = link_put (paired a b Friend) (record { a = a; b = b; state = link.Friend }) lists refl refl refl refl order in
    let same : changed (Accept a b) (changed (Invite a b) (tables_of lists)) ≡ tables_of (with_pair (paired a b Friend) lists) =
    ap (λ (ls : List Link). (let t : Tables = record { members = lists.members; links = with_link (friendship a b) ls; blocks = (tables_of lists).blocks } in t)) back
    ∙ (ap (λ (l : Link). (let t : Tables = record { members = lists.members; links = with_link l links; blocks = (tables_of lists).blocks } in t)) (friend_is a b less) ∙ sym put) in
    sym made.1 ∙ same

-- a pair behind all others
counted_all : {X : Type 0} (p : X → Bool) (xs : List X) → All (λ x. p x ≡ true) xs → count_by p xs ≡ length xs
counted_all p [] all = refl
counted_all p (x ∷ xs) all =
    let here = All-head (λ y. p y ≡ true) x xs all in
    let rest = counted_all p xs (All-tail (λ y. p y ≡ true) x xs all) in
    count_cons p x xs ∙ (ap (λ b. cond b 1 0 + count_by p xs) here ∙ omega (arith, rest))

pub put_last : (new : Pair) (ps : List Pair) → All (λ p. is_pair_before new p ≡ true) ps → insert ps (count_by (is_pair_before new) ps) new ≡ ps ++ new ∷ []
put_last new ps all =
    ap (λ (n : ℕ). insert ps n new) (counted_all (is_pair_before new) ps all)
    ∙ (ap (λ (xs : List Pair). xs ++ new ∷ drop (length ps) ps) (take-length ps) ∙ ap (λ (xs : List Pair). ps ++ new ∷ xs) (drop-length ps))

passes : (new p : Pair) → IsPairBefore p new → is_pair_before new p ≡ true
passes new p before =
    let low : p.a ≤ new.a = before.0 in
    let tied : p.a ≡ new.a → p.b < new.b = before.1 in
    grind (arith, nat_tests)

-- the pairs so far, and the next
pub next_pair : (members : List Member) (pairs : List Pair) (k : ℕ) (p : Pair) → k < length pairs → p ≡ get_or pairs k p → AllPairs IsPairBefore pairs
    → with_pair p (record { members = members; pairs = take k pairs }) ≡ record { members = members; pairs = take (k + 1) pairs }
next_pair members pairs k p l here order =
    let all : All (λ q. is_pair_before p q ≡ true) (take k pairs) = λ i d low.
    let long = length-take k pairs in
    let within : i < k = omega (arith, low, long) in
    let one = get_or-take k pairs i d within in
    let at : get_or pairs k d ≡ p = get_or_default pairs k d p l ∙ sym here in
    rw one (passes p (get_or pairs i d) (subst (λ (q : Pair). IsPairBefore (get_or pairs i d) q) at (order i k d within l))) in
    let more : take (k + 1) pairs ≡ take k pairs ++ get_or pairs k p ∷ [] = rw (add-one k) (take-suc pairs k p l) in
    ap (λ (ps : List Pair). (let ls : Lists = record { members = members; pairs = ps } in ls))
    (put_last p (take k pairs) all ∙ (ap (λ (q : Pair). take k pairs ++ q ∷ []) here ∙ sym more))

-- the pairs so far ascend
pub so_far : (pairs : List Pair) (k : ℕ) → AllPairs IsPairBefore pairs → AllPairs IsPairBefore (take k pairs)
so_far pairs k order = λ i j d less low.
    let long = length-take k pairs in
    let one = get_or-take k pairs i d (omega (arith, less, low, long)) in
    let two = get_or-take k pairs j d (omega (arith, low, long)) in
    rw (one, two) (order i j d less (omega (arith, low, long)))

-- rows that a pair led to, whatever stands for a pair past the last
pub put_next : (members : List Member) (pairs : List Pair) (k : ℕ) (d : Pair) (after : Tables) → k < length pairs → AllPairs IsPairBefore pairs
    → after ≡ tables_of (with_pair (get_or pairs k d) (record { members = members; pairs = take k pairs }))
    → after ≡ tables_of (record { members = members; pairs = take (k + 1) pairs })
put_next members pairs k d after l order is =
    is ∙ ap tables_of (next_pair members pairs k (get_or pairs k d) l (get_or_default pairs k d (get_or pairs k d) l) order)
