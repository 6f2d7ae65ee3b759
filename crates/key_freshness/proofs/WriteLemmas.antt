-- What a writer puts or shifts after its own commit is held and right.
use Rattle.std.proofs.Common.{ℕ, zero, suc, ◌≡◌, ◌+◌, ◌-◌, ◌≤◌, ◌<◌, Bool, true, false, List, [], ◌∷◌, length, take, Option, Some, sym, ap, subst}
use Rattle.std.proofs.Common.{◌∙◌, ◌⊎◌, inl, inr, ⊎_elim, arith}
use Rattle.std.proofs.lemmas.Option.{slice_get_within}
use Rattle.rows_model.specs.declared.keys.QKey.{QKey}
use Rattle.rows_model.specs.declared.changes.Change.{Change}
use Rattle.rows_model.specs.Changes.{touches}
use Rattle.sql_keeper.specs.declared.stores.Commit.{Commit}
use Rattle.key_freshness.specs.Marks.{Mark, Ended, Wrote, Has}
use Rattle.key_freshness.specs.Known.{Known, StandsAt, IsLogged, IsMore, IsRuled}
use Rattle.key_freshness.specs.Moments.{IsMoment, IsSince}
use Rattle.key_freshness.specs.Held.{IsHeld, IsRight, LeavesUntouched, MakesNext}
use Rattle.key_freshness.specs.Laws.{IsOwn, PutIsHeld, PutIsRight, ShiftIsRight, WrittenBefore}
use Rattle.key_freshness.proofs.MarkLemmas.{ended-back, has-back, last_wrote-append, last_wrote-has}
use Rattle.key_freshness.proofs.KnownLemmas.{stands-within, take-whole, more-length, more-stands, more-stood, more-take}
use Rattle.key_freshness.proofs.MomentLemmas.{ended_since, known_then}

-- a commit on the key that the moment didn't know is the session's own
own_if_late : (key : QKey) (who place : ℕ) (own : Commit) (then_marks marks : List Mark) (then_known known : Known)
    → IsMoment key (Some who) then_marks then_known
    → IsSince (Some who) then_marks marks → IsMore then_known known → IsRuled key marks known → IsOwn then_known known who place own
    → (q : ℕ) (commit : Commit) → StandsAt known.log q commit → touches commit.txn key ≡ true → (q ≡ place) ⊎ (q < length then_known.log)
own_if_late key who place own then_marks marks then_known known moment since more ruled its q commit at touched =
    ⊎_elim
    (λ m. inl (ruled.once q place commit own at its.at (m ∙ sym its.mine)))
    (λ lt. inr lt)
    (known_then key (Some who) then_marks marks then_known known moment since more ruled q commit at touched)

pub put_is_held : PutIsHeld
put_is_held key who token place own then_marks marks then_known known moment since more ruled its = record {
  within = let lt = slice_get_within known.log place own its.at in omega (arith, lt);
  pending = λ q commit other at from touched ended.
      let late = its.late in
      ⊎_elim
      (λ same. absurd (omega (arith, same, from)))
      (λ lt. absurd (omega (arith, lt, from, late)))
      (own_if_late key who place own then_marks marks then_known known moment since more ruled its q commit at touched);
  settled = λ q commit at before touched.
      ⊎_elim
      (λ mine. record { token = token; mark = inr (inl (ap (λ n. Ended n token) (sym mine))) })
      (λ ended. ended-back commit.sid.number (Wrote (place + 1) ∷ Ended who token ∷ []) marks ended)
      (ended_since key (Some who) then_marks marks then_known known moment since ruled q commit at touched);
}

not_true : (b : Bool) → (b ≡ true → ⊥) → b ≡ false
not_true true h = absurd (h cc)
not_true false h = cc

-- the answers after two places are the same where no commit between them touches the key
pub unmoved : (key : QKey) (answer : List Commit → List ℕ) (log : List Commit) (stamp n : ℕ) → LeavesUntouched key answer log → stamp + n ≤ length log
    → ((q : ℕ) (commit : Commit) → StandsAt log q commit → stamp ≤ q → q < stamp + n → touches commit.txn key ≡ true → ⊥)
    → answer (take (stamp + n) log) ≡ answer (take stamp log)
unmoved key answer log stamp zero leaves within none = ap (λ m. answer (take m log)) (omega arith)
unmoved key answer log stamp (suc n) leaves within none =
    let found = stands-within log (stamp + n) (omega (arith, within)) in
    let e : stamp + suc n ≡ stamp + n + 1 = omega arith in
    let quiet = not_true (touches found.0.txn key) (λ t. none (stamp + n) found.0 found.1 (omega arith) (omega arith) t) in
    ap (λ m. answer (take m log)) e ∙ leaves (stamp + n) found.0 found.1 quiet
    ∙ unmoved key answer log stamp n leaves (omega (arith, within)) (λ q commit at from lt t. none q commit at from (omega (arith, lt)) t)

-- the answer stays the one that was held and right at the moment, up to a place before which no commit of the session's own stands
pub same_until : (key : QKey) (who stamp n : ℕ) (then_marks marks : List Mark) (then_known known : Known) (answer : List Commit → List ℕ) (old : List ℕ)
    → IsMoment key (Some who) then_marks then_known → IsSince (Some who) then_marks marks → IsMore then_known known → IsRuled key marks known
    → ((q : ℕ) (commit : Commit) (token : ℕ) → StandsAt then_known.log q commit
    → stamp ≤ q → touches commit.txn key ≡ true → Has (Ended commit.sid.number token) then_marks → ⊥)
    → ((q : ℕ) (commit : Commit) → StandsAt known.log q commit → q < n → commit.sid.number ≡ who → ⊥)
    → IsRight answer known.log old stamp → LeavesUntouched key answer known.log → stamp ≤ n → n ≤ length known.log → answer (take n known.log) ≡ old
same_until key who stamp n then_marks marks then_known known answer old moment since more ruled pending none right leaves low within =
    let e : stamp + (n - stamp) ≡ n = omega (arith, low) in
    let still = unmoved key answer known.log stamp (n - stamp) leaves
    (omega (arith, e, within)) (λ q commit at from before touched. quiet q commit at from (omega (arith, e, before)) touched) in
    ap (λ m. answer (take m known.log)) (sym e) ∙ still ∙ sym right
  where
    quiet : (q : ℕ) (commit : Commit) → StandsAt known.log q commit → stamp ≤ q → q < n → touches commit.txn key ≡ true → ⊥
    quiet q commit at from before touched =
        ⊎_elim
        (λ m. none q commit at before m)
        (λ lt.
        let stood = more-stood more q commit at lt in
        let granted = moment.ruled.covered q commit stood touched in
        ⊎_elim
        (λ m. none q commit at before m)
        (λ ended. pending q commit granted.token stood from touched ended)
        (moment.settled commit.sid.number granted.token granted.mark))
        (known_then key (Some who) then_marks marks then_known known moment since more ruled q commit at touched)

-- the entry that was held and right at the moment is the present answer while the session hasn't committed
pub still_present : (key : QKey) (who stamp : ℕ) (then_marks marks : List Mark) (then_known known : Known) (answer : List Commit → List ℕ) (old : List ℕ)
    → IsMoment key (Some who) then_marks then_known → IsHeld key then_marks then_known stamp → IsSince (Some who) then_marks marks → IsMore then_known known
    → IsRuled key marks known → IsRight answer known.log old stamp
    → LeavesUntouched key answer known.log → (IsLogged known.log who → ⊥) → old ≡ answer known.log
still_present key who stamp then_marks marks then_known known answer old moment held since more ruled right leaves ongoing =
    let within = held.within in
    let longer = more-length more in
    sym (same_until key who stamp (length known.log) then_marks marks then_known known answer old moment since more ruled held.pending
    (λ q commit at lt mine. ongoing (record { place = q; commit = commit; at = at; own = mine })) right leaves (omega (arith, within, longer)) (omega arith))
    ∙ ap answer (take-whole known.log)

-- the value before that no commit at the moment moved is made the next by the session's own commit
made_after : (key : QKey) (who place stamp : ℕ) (own : Commit) (then_marks marks : List Mark) (then_known known : Known)
    (answer : List Commit → List ℕ) (next : List Change → List ℕ → Option (List ℕ)) (old : List ℕ) → IsMoment key (Some who) then_marks then_known
    → IsSince (Some who) then_marks marks → IsMore then_known known → IsRuled key marks known → IsOwn then_known known who place own
    → ((q : ℕ) (commit : Commit) (token : ℕ) → StandsAt then_known.log q commit
    → stamp ≤ q → touches commit.txn key ≡ true → Has (Ended commit.sid.number token) then_marks → ⊥)
    → IsRight answer known.log old stamp → stamp ≤ length then_known.log → LeavesUntouched key answer known.log → MakesNext next answer known.log
    → next own.txn old ≡ Some (answer (take (place + 1) known.log))
made_after key who place stamp own then_marks marks then_known known answer next old moment since more ruled its pending right within leaves makes =
    let late = its.late in
    let lt = slice_get_within known.log place own its.at in
    let same = same_until key who stamp place then_marks marks then_known known answer old moment since more ruled pending first right leaves
    (omega (arith, within, late)) (omega (arith, lt)) in
    ap (λ v. next own.txn v) (sym same) ∙ makes place own its.at
  where
    first : (q : ℕ) (commit : Commit) → StandsAt known.log q commit → q < place → commit.sid.number ≡ who → ⊥
    first q commit at before mine = let same = ruled.once q place commit own at its.at (mine ∙ sym its.mine) in absurd (omega (arith, same, before))

-- its own changes make the entry that was held and right at the moment the answer after its commit
pub made_of_held : (key : QKey) (who place stamp : ℕ) (own : Commit) (then_marks marks : List Mark) (then_known known : Known)
    (answer : List Commit → List ℕ) (next : List Change → List ℕ → Option (List ℕ)) (old : List ℕ) → IsMoment key (Some who) then_marks then_known
    → IsHeld key then_marks then_known stamp → IsSince (Some who) then_marks marks → IsMore then_known known → IsRuled key marks known
    → IsOwn then_known known who place own → IsRight answer known.log old stamp → LeavesUntouched key answer known.log → MakesNext next answer known.log
    → next own.txn old ≡ Some (answer (take (place + 1) known.log))
made_of_held key who place stamp own then_marks marks then_known known answer next old moment held since more ruled its right leaves makes =
    made_after key who place stamp own then_marks marks then_known known answer next old moment since more ruled its held.pending right held.within leaves makes

some_same : {X : Type 0} {a b : X} → Some a ≡ Some b → a ≡ b
some_same e = cc

made_next : (key : QKey) (who place stamp : ℕ) (own : Commit) (then_marks marks : List Mark) (then_known known : Known)
    (answer : List Commit → List ℕ) (next : List Change → List ℕ → Option (List ℕ)) (old new : List ℕ) → IsMoment key (Some who) then_marks then_known
    → IsSince (Some who) then_marks marks → IsMore then_known known → IsRuled key marks known → IsOwn then_known known who place own
    → ((q : ℕ) (commit : Commit) (token : ℕ) → StandsAt then_known.log q commit
    → stamp ≤ q → touches commit.txn key ≡ true → Has (Ended commit.sid.number token) then_marks → ⊥)
    → IsRight answer known.log old stamp → stamp ≤ length then_known.log → LeavesUntouched key answer known.log → MakesNext next answer known.log
    → next own.txn old ≡ Some new → IsRight answer known.log new (place + 1)
made_next key who place stamp own then_marks marks then_known known answer next old new moment since more ruled its pending right within leaves makes made =
    some_same (sym made
    ∙ made_after key who place stamp own then_marks marks then_known known answer next old moment since more ruled its pending right within leaves makes)

pub put_is_right : PutIsRight
put_is_right key who place stamp own then_marks marks then_known known answer next old new moment held right since more ruled its leaves makes made =
    made_next key who place stamp own then_marks marks then_known known answer next old new moment since more ruled its
    held.pending (right ∙ ap answer (sym (more-take more stamp held.within))) held.within leaves makes made

pub shift_is_right : ShiftIsRight
shift_is_right key who place stamp own then_marks marks then_known known answer next old new moment since more ruled held right before its leaves makes made =
    made_next key who place stamp own then_marks marks then_known known answer next old new moment since more ruled its
    (λ q commit token at from touched ended.
    held.pending q commit token (more-stands more q commit at) from touched
    (subst (λ ms. Has (Ended commit.sid.number token) ms) (sym since.goes_on) (has-back (Ended commit.sid.number token) since.more then_marks ended)))
    right before leaves makes made

pub written_before : WrittenBefore
written_before key mine start then_marks more then_known value stamp moment none stamped begun =
    ⊎_elim
    (λ wrote. moment.ruled.wrote stamp wrote)
    (λ e. begun stamp e)
    (last_wrote-has then_marks start stamp (sym (last_wrote-append more then_marks start none) ∙ stamped))
