-- Words say one command at most, but for its block.
use Rattle.std.proofs.Common.{ℕ, ℤ, pos, neg_ℤ, ◌==◌, ◌≡◌, ◌⊎◌, inl, inr, true, List, [], ◌∷◌, get_or, drop, Option, Some, None}
use Rattle.std.proofs.Common.{arith, refl, sym, ap, ◌∙◌, subst}
use Rattle.std.specs.Prelude.{if◌then◌else◌}
use Rattle.std.proofs.lemmas.Bool.{false≢true}
use Rattle.std.proofs.lemmas.List.Folds.{list_all_at}
use Rattle.rows_model.specs.declared.keys.QKey.{QKey}
use Rattle.rows_model.specs.declared.keys.Sid.{Sid}
use Rattle.rows_model.specs.Shift.{is_digit, number_from}
use Rattle.rows_model.proofs.KeyLemmas.{key_text_injective}
use Rattle.change_words.proofs.OnceLemmas.{txn_once}
use Rattle.mc_text.specs.declared.commands.Role.{Role}
use Rattle.mc_text.specs.declared.commands.Role.TheVariants.{Read, Write}
use Rattle.mc_text.specs.declared.commands.Command.{Command}
use Rattle.mc_text.specs.declared.commands.Command.TheVariants.{Begin, IqGet, Ask, Stage, IqSet, QaReg, QaRead, IqDelta, Sql, Dar, Sar}
use Rattle.mc_text.specs.declared.commands.Command.TheVariants.{IqCommit, IqAbort, Quit, Unknown}
use Rattle.mc_text.specs.Words.{Names, IsKey, is_numeral, IsBelow, IsNumber, IsFlags, IsSid, IsBy}
use Rattle.mc_text.specs.Commands.{Then, role_word, verb_of, AreArgs, AreWords, block_of}
use Rattle.mc_text.proofs.NumberLemmas.{numeral_parts}
use Rattle.mc_text.proofs.OnceLemmas.{IsStrange, Spells, spelled, apart, one_verb}

named_once : (word : List ℕ) (a b : Option QKey) → Names word a → Names word b → a ≡ b
named_once word None None h k = refl
named_once word None (Some b) h k = absurd (h b k)
named_once word (Some a) None h k = absurd (k a h)
named_once word (Some a) (Some b) h k =
    ap (λ (q : QKey). Some q) (key_text_injective a b (omega (arith, h.id)) (omega (arith, k.id)) (sym h.text.written ∙ k.text.written))

key_once : (word : List ℕ) (a b : Option QKey) → IsKey word a → IsKey word b → a ≡ b
key_once word a b h k = named_once word a b h.names k.names

number_once : {limit : ℕ} (word : List ℕ) (a b : ℕ) → IsBelow limit word a → IsBelow limit word b → a ≡ b
number_once word a b h k = h.value ∙ sym k.value

sid_once : (word : List ℕ) (a b : Sid) → IsSid word a → IsSid word b → a ≡ b
sid_once word a b h k = let same : a.number ≡ b.number = h.value ∙ sym k.value in ap (λ (n : ℕ). record { number = n }) same

role_with : ℕ → Role
role_with n = if n == 114 then Read else Write

role_back : (r : Role) → role_with (get_or (role_word r) 0 0) ≡ r
unfolding role_with
role_back Read = refl
role_back Write = refl

role_once : (word : List ℕ) (a b : Role) → word ≡ role_word a → word ≡ role_word b → a ≡ b
role_once word a b h k = sym (role_back a) ∙ (ap (λ (w : List ℕ). role_with (get_or w 0 0)) (sym h ∙ k) ∙ role_back b)

-- a numeral begins with no minus
no_minus : (digits : List ℕ) → is_numeral (45 ∷ digits) ≡ true → ⊥
no_minus digits e =
    let parts = numeral_parts (45 ∷ digits) e in
    false≢true (sym (list_all_at is_digit (45 ∷ digits) 0 0 (omega arith) refl) ∙ parts.2)

by_once : (word : List ℕ) (a b : ℤ) → IsBy word a → IsBy word b → a ≡ b
by_once word a b (inl h) (inl k) = h.value ∙ sym k.value
by_once word a b (inl h) (inr k) = absurd (no_minus k.digits (rw k.sign at h.form))
by_once word a b (inr h) (inl k) = absurd (no_minus h.digits (rw h.sign at k.form))
by_once word a b (inr h) (inr k) =
    let same : h.digits ≡ k.digits = ap (λ (w : List ℕ). drop 1 w) (sym h.sign ∙ k.sign) in
    h.value ∙ (ap (λ (ds : List ℕ). neg_ℤ (pos (number_from 0 ds))) same ∙ sym k.value)

-- two readings of the same words have the same first word
pub record Both (P Q : List ℕ → Type 0) (R S : List (List ℕ) → Type 0) : Type 0 where
  pub word : List ℕ
  pub rest : List (List ℕ)
  pub one : P word
  pub two : Q word
  pub left : R rest
  pub right : S rest

both : (P Q : List ℕ → Type 0) (R S : List (List ℕ) → Type 0) (words : List (List ℕ)) → Then P R words → Then Q S words → Both P Q R S
both P Q R S [] h k = absurd h
both P Q R S (word ∷ words) h k = record { word = word; rest = words; one = h.0; two = k.0; left = h.1; right = k.1 }

-- a key and a session, with what stands behind them
record Asked (key key' : Option QKey) (sid sid' : Sid) (R S : List (List ℕ) → Type 0) : Type 0 where
  pub key_is : key ≡ key'
  pub sid_is : sid ≡ sid'
  pub rest : List (List ℕ)
  pub left : R rest
  pub right : S rest

-- words say one key and one session
asked_once : (key key' : Option QKey) (sid sid' : Sid) (R S : List (List ℕ) → Type 0) (words : List (List ℕ))
    → Then (λ word. IsKey word key) (Then (λ word. IsSid word sid) R) words
    → Then (λ word. IsKey word key') (Then (λ word. IsSid word sid') S) words
    → Asked key key' sid sid' R S
asked_once key key' sid sid' R S words h k =
    let w0 = both _ _ _ _ words h k in
    let w1 = both _ _ _ _ w0.rest w0.left w0.right in
    record {
      key_is = key_once w0.word key key' w0.one w0.two;
      sid_is = sid_once w1.word sid sid' w1.one w1.two;
      rest = w1.rest;
      left = w1.left;
      right = w1.right;
    }

-- a key, flags, a time and a length, with what stands behind them
record Item (key key' : Option QKey) (flags flags' exptime exptime' bytes bytes' : ℕ) (R S : List (List ℕ) → Type 0) : Type 0 where
  pub key_is : key ≡ key'
  pub flags_is : flags ≡ flags'
  pub exptime_is : exptime ≡ exptime'
  pub bytes_is : bytes ≡ bytes'
  pub rest : List (List ℕ)
  pub left : R rest
  pub right : S rest

-- words say one item
item_once : (key key' : Option QKey) (flags flags' exptime exptime' bytes bytes' : ℕ) (R S : List (List ℕ) → Type 0) (words : List (List ℕ))
    → Then (λ word. IsKey word key) (Then (λ word. IsFlags word flags) (Then (λ word. IsNumber word exptime) (Then (λ word. IsNumber word bytes) R))) words
    → Then (λ word. IsKey word key') (Then (λ word. IsFlags word flags') (Then (λ word. IsNumber word exptime') (Then (λ word. IsNumber word bytes') S))) words
    → Item key key' flags flags' exptime exptime' bytes bytes' R S
item_once key key' flags flags' exptime exptime' bytes bytes' R S words h k =
    let w0 = both _ _ _ _ words h k in
    let w1 = both _ _ _ _ w0.rest w0.left w0.right in
    let w2 = both _ _ _ _ w1.rest w1.left w1.right in
    let w3 = both _ _ _ _ w2.rest w2.left w2.right in
    record {
      key_is = key_once w0.word key key' w0.one w0.two;
      flags_is = number_once w1.word flags flags' w1.one w1.two;
      exptime_is = number_once w2.word exptime exptime' w2.one w2.two;
      bytes_is = number_once w3.word bytes bytes' w3.one w3.two;
      rest = w3.rest;
      left = w3.left;
      right = w3.right;
    }

-- the words behind a verb say one command of that verb
pub args_once : (a b : Command) (words : List (List ℕ)) → verb_of a ≡ verb_of b → block_of a ≡ block_of b → AreArgs a words → AreArgs b words → a ≡ b
args_once (Begin role) (Begin role') words e f h k =
    let w = both _ _ _ _ words h k in
    let same = role_once w.word role role' w.one w.two in
    cc
args_once (IqGet key sid floor) (IqGet key' sid' floor') words e f h k =
    let w = asked_once key key' sid sid' _ _ words h k in
    let last = both _ _ _ _ w.rest w.left w.right in
    let e_floor = number_once last.word floor floor' last.one last.two in
    cc (w.key_is, w.sid_is, e_floor)
args_once (Ask key sid) (Ask key' sid') words e f h k =
    let w = asked_once key key' sid sid' _ _ words h k in
    cc (w.key_is, w.sid_is)
args_once (Stage key sid txn) (Stage key' sid' txn') words e f h k =
    let w = asked_once key key' sid sid' _ _ words h k in
    let e_txn = txn_once txn txn' w.rest w.left w.right in
    cc (w.key_is, w.sid_is, e_txn)
args_once (IqSet key flags exptime bytes token stamp block) (IqSet key' flags' exptime' bytes' token' stamp' block') words e f h k =
    let w = item_once key key' flags flags' exptime exptime' bytes bytes' _ _ words h k in
    let next = both _ _ _ _ w.rest w.left w.right in
    let e_token = number_once next.word token token' next.one next.two in
    let last = both _ _ _ _ next.rest next.left next.right in
    let e_stamp = number_once last.word stamp stamp' last.one last.two in
    cc (w.key_is, w.flags_is, w.exptime_is, w.bytes_is, e_token, e_stamp, f)
args_once (QaReg key sid) (QaReg key' sid') words e f h k =
    let w = asked_once key key' sid sid' _ _ words h k in
    cc (w.key_is, w.sid_is)
args_once (QaRead key sid) (QaRead key' sid') words e f h k =
    let w = asked_once key key' sid sid' _ _ words h k in
    cc (w.key_is, w.sid_is)
args_once (IqDelta key sid by) (IqDelta key' sid' by') words e f h k =
    let w = asked_once key key' sid sid' _ _ words h k in
    let last = both _ _ _ _ w.rest w.left w.right in
    let e_by = by_once last.word by by' last.one last.two in
    cc (w.key_is, w.sid_is, e_by)
args_once (Sql sid txn) (Sql sid' txn') words e f h k =
    let w = both _ _ _ _ words h k in
    let e_sid = sid_once w.word sid sid' w.one w.two in
    let e_txn = txn_once txn txn' w.rest w.left w.right in
    cc
args_once (Dar key sid) (Dar key' sid') words e f h k =
    let w = asked_once key key' sid sid' _ _ words h k in
    cc (w.key_is, w.sid_is)
args_once (Sar key flags exptime bytes sid block) (Sar key' flags' exptime' bytes' sid' block') words e f h k =
    let w = item_once key key' flags flags' exptime exptime' bytes bytes' _ _ words h k in
    let last = both _ _ _ _ w.rest w.left w.right in
    let e_sid = sid_once last.word sid sid' last.one last.two in
    cc (w.key_is, w.flags_is, w.exptime_is, w.bytes_is, e_sid, f)
args_once (IqCommit key sid) (IqCommit key' sid') words e f h k =
    let w = asked_once key key' sid sid' _ _ words h k in
    cc (w.key_is, w.sid_is)
args_once (IqAbort sid) (IqAbort sid') words e f h k =
    let w = both _ _ _ _ words h k in
    let e_sid = sid_once w.word sid sid' w.one w.two in
    cc
args_once Quit Quit words e f h k = refl
args_once Unknown Unknown words e f h k = refl
args_once a b words e f h k = absurd cc

-- words say one command at most, where the block is told
pub words_once : (a b : Command) (words : List (List ℕ)) → AreWords a words → AreWords b words → block_of a ≡ block_of b → a ≡ b
words_once a b words h k f = by (spelled a words h) (spelled b words k)
  where
    by : IsStrange a words ⊎ Spells a words → IsStrange b words ⊎ Spells b words → a ≡ b
    by (inl s) (inl t) = s.is ∙ sym t.is
    by (inl s) (inr t) = absurd (apart a b words s t)
    by (inr s) (inl t) = absurd (apart b a words t s)
    by (inr s) (inr t) =
        let same : s.args ≡ t.args = ap (λ (ws : List (List ℕ)). drop 1 ws) (sym s.words_are ∙ t.words_are) in
        args_once a b t.args (one_verb a b words s t) f (subst (λ (ws : List (List ℕ)). AreArgs a ws) same s.says) t.says
