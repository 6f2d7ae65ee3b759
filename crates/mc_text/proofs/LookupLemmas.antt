-- A lookup whose line has one space between its words and no other.
use Rattle.std.proofs.Common.{ℕ, ◌+◌, ◌-◌, ◌≡◌, ◌<◌, ◌≤◌, Bool, true, false, List, [], ◌∷◌, ◌++◌, length, take, get_or, Some, arith, refl, sym, ap, subst, ◌∙◌}
use Rattle.std.specs.Prelude.{filter, nat_le, ◌&&◌}
use Rattle.std.specs.List.{list_all, All, slice_split}
use Rattle.std.proofs.lemmas.Bool.{false≢true, and_parts}
use Rattle.std.proofs.lemmas.Bool.Decides.{nat_tests}
use Rattle.std.proofs.lemmas.List.{length-append, append_assoc, get_or-append-add, get_or_append_left}
use Rattle.std.proofs.lemmas.List.Elements.{All-from_get_or}
use Rattle.std.proofs.lemmas.List.Folds.{list_all_at, list_all-append}
use Rattle.std.proofs.lemmas.List.Splits.{slice_split_at, slice_split_none}
use Rattle.std.proofs.Math.Seq.{get_or-append_seam, take-append_seam}
use Rattle.rows_model.specs.declared.keys.Kind.{Kind}
use Rattle.rows_model.specs.declared.keys.QKey.{QKey}
use Rattle.rows_model.specs.Key.{word_of}
use Rattle.rows_model.specs.Shift.{is_digit}
use Rattle.mc_text.specs.Words.{is_some_word, words_in, is_key_byte, is_key, IsServed, IsNumber, IsMember}
use Rattle.mc_text.specs.Verbs.{lease_text}
use Rattle.mc_text.specs.declared.verb_words.LeaseVerb.TheVariants as lease
use Rattle.mc_text.specs.declared.commands.Command.TheVariants.{IqGet}
use Rattle.mc_text.specs.Commands.{AreWords}
use Rattle.mc_text.specs.Streams.{EndsAt, IsLine, IsCommand}
use Rattle.mc_text.specs.Lookups.{BeginsWithKey, BeginsWithNumber}
use Rattle.mc_text.proofs.NumberLemmas.{numeral_parts}
use Rattle.mc_text.proofs.KindLemmas.{number_written, not_zero, served, served_form, digit_bytes}
use Rattle.mc_text.proofs.SplitLemmas.{is_space}

-- a kind with the number of a member behind it is a key that is served
pub key_in_front : (text : List ℕ) (kind : Kind) (digits : List ℕ) (number : ℕ) (rest : List ℕ)
    → text ≡ word_of kind ++ 58 ∷ digits → 49 ≤ get_or digits 0 0 → BeginsWithNumber digits number rest → number ≤ 100000
    → BeginsWithKey text (record { kind = kind; id = number }) rest
key_in_front text kind digits number rest e first n small =
    let ds = n.digits in
    let h = n.number_is in
    let some : 1 ≤ length ds = (numeral_parts ds h.form).0 in
    let same : get_or digits 0 0 ≡ get_or ds 0 0 = ap (λ (t : List ℕ). get_or t 0 0) n.text_is ∙ get_or_append_left ds rest 0 0 (omega arith) in
    let low : 49 ≤ get_or ds 0 0 = omega arith in
    let member : IsMember ds number = record { id_from = not_zero ds number h low; id_to = small; written = number_written ds number h low } in
    record {
      word = word_of kind ++ 58 ∷ ds;
      text_is = e ∙ (ap (λ (t : List ℕ). word_of kind ++ 58 ∷ t) n.text_is ∙ sym (append_assoc (word_of kind) (58 ∷ ds) rest));
      key_is = served (word_of kind ++ 58 ∷ ds) ds kind number refl member;
    }

-- each byte passes a test that all pass
byte_passes : (p : ℕ → Bool) (text : List ℕ) (i : ℕ) → i < length text → list_all p text ≡ true → p (get_or text i 0) ≡ true
byte_passes p text i within all = by (p (get_or text i 0)) refl
  where
    by : (b : Bool) → p (get_or text i 0) ≡ b → p (get_or text i 0) ≡ true
    by true e = e
    by false e = absurd (false≢true (sym (list_all_at p text i 0 within e) ∙ all))

-- a byte of a key is no space
no_space_byte : (byte : ℕ) → is_key_byte byte ≡ true → is_space byte ≡ false
no_space_byte byte e = grind (arith, nat_tests)

no_spaces : (word : List ℕ) → list_all is_key_byte word ≡ true → All (λ x. is_space x ≡ false) word
no_spaces word all = All-from_get_or (λ (x : ℕ). is_space x ≡ false) word 0 (λ i h. no_space_byte _ (byte_passes is_key_byte word i h all))

-- a word with a space behind it, and the last word
word_in_front : (word rest : List ℕ) → list_all is_key_byte word ≡ true → 1 ≤ length word → words_in (word ++ 32 ∷ rest) ≡ word ∷ words_in rest
word_in_front word rest all some =
    let parts : slice_split is_space (word ++ 32 ∷ rest) ≡ word ∷ slice_split is_space rest = slice_split_at is_space word 32 rest (no_spaces word all) refl in
    let kept : is_some_word word ≡ true = grind (arith, nat_tests) in
    ap (λ (ps : List (List ℕ)). filter is_some_word ps) parts ∙ rw kept refl

word_alone : (word : List ℕ) → list_all is_key_byte word ≡ true → 1 ≤ length word → words_in word ≡ word ∷ []
word_alone word all some =
    let kept : is_some_word word ≡ true = grind (arith, nat_tests) in
    ap (λ (ps : List (List ℕ)). filter is_some_word ps) (slice_split_none is_space word (no_spaces word all)) ∙ rw kept refl

-- whether a byte is none that ends a line
is_line_byte : ℕ → Bool
is_line_byte byte = nat_le 32 byte

line_byte : (byte : ℕ) → is_key_byte byte ≡ true → is_line_byte byte ≡ true
unfolding is_line_byte
line_byte byte e = grind (arith, nat_tests)

no_return : (byte : ℕ) → is_line_byte byte ≡ true → byte ≡ 13 → ⊥
unfolding is_line_byte
no_return byte e same = grind (arith, nat_tests)

word_bytes : (word : List ℕ) → list_all is_key_byte word ≡ true → list_all is_line_byte word ≡ true
word_bytes [] all = refl
word_bytes (b ∷ bs) all =
    let parts = and_parts (is_key_byte b) (list_all is_key_byte bs) all in
    rw (line_byte b parts.0, word_bytes bs parts.1) refl

space_bytes : (rest : List ℕ) → list_all is_line_byte rest ≡ true → list_all is_line_byte (32 ∷ rest) ≡ true
unfolding is_line_byte
space_bytes rest all = all

bytes_behind : (word rest : List ℕ) → list_all is_key_byte word ≡ true → list_all is_line_byte rest ≡ true
    → list_all is_line_byte (word ++ 32 ∷ rest) ≡ true
bytes_behind word rest all others =
    list_all-append is_line_byte word (32 ∷ rest) ∙ rw (word_bytes word all, space_bytes rest others) refl

-- a line in which no byte ends one
line_stands : (line rest : List ℕ) → list_all is_line_byte line ≡ true → length line ≤ 2048 → IsLine (line ++ 13 ∷ 10 ∷ rest) (length line)
line_stands line rest all short = record {
  ends = record {
    whole = let l = length-append line (13 ∷ 10 ∷ rest) in omega (arith, l);
    cr = get_or-append_seam line 13 (10 ∷ rest) 0;
    lf = get_or-append-add line (13 ∷ 10 ∷ rest) 1 0;
  };
  first = λ place h e.
      no_return (get_or line place 0) (byte_passes is_line_byte line place h all)
      (sym (get_or_append_left line (13 ∷ 10 ∷ rest) 0 place h) ∙ e.cr);
  short = short;
}

-- the line of a lookup
abbrev pub lookup_line : List ℕ → List ℕ → List ℕ → List ℕ
lookup_line key sid floor = lease_text lease.IqGet ++ 32 ∷ (key ++ 32 ∷ (sid ++ 32 ∷ floor))

lookup_words : (key sid floor : List ℕ) → list_all is_key_byte key ≡ true → list_all is_key_byte sid ≡ true → list_all is_key_byte floor ≡ true
    → 1 ≤ length key → 1 ≤ length sid → 1 ≤ length floor
    → words_in (lookup_line key sid floor) ≡ lease_text lease.IqGet ∷ key ∷ sid ∷ floor ∷ []
lookup_words key sid floor ka sa fa k s f =
    word_in_front (lease_text lease.IqGet) (key ++ 32 ∷ (sid ++ 32 ∷ floor)) refl (omega arith)
    ∙ ap (λ (ws : List (List ℕ)). lease_text lease.IqGet ∷ ws)
    (word_in_front key (sid ++ 32 ∷ floor) ka k
    ∙ ap (λ (ws : List (List ℕ)). key ∷ ws) (word_in_front sid floor sa s ∙ ap (λ (ws : List (List ℕ)). sid ∷ ws) (word_alone floor fa f)))

-- what stands in front of a text, and one byte, with more before it
behind_one : (front word rest more : List ℕ) (byte : ℕ) → front ≡ word ++ rest → rest ≡ byte ∷ more → front ≡ word ++ byte ∷ more
behind_one front word rest more byte e f = e ∙ ap (λ (t : List ℕ). word ++ t) f

-- the stream is the line, its end, and what stands behind
stream_is : (stream args key behind_key sids sid behind_sid floors floor behind_floor rest : List ℕ)
    → stream ≡ lease_text lease.IqGet ++ 32 ∷ args
    → args ≡ key ++ behind_key → behind_key ≡ 32 ∷ sids
    → sids ≡ sid ++ behind_sid → behind_sid ≡ 32 ∷ floors
    → floors ≡ floor ++ behind_floor → behind_floor ≡ 13 ∷ 10 ∷ rest
    → stream ≡ lookup_line key sid floor ++ 13 ∷ 10 ∷ rest
stream_is stream args key behind_key sids sid behind_sid floors floor behind_floor rest v a s b t c e =
    let ends : floors ≡ floor ++ 13 ∷ 10 ∷ rest = behind_one floors floor behind_floor (10 ∷ rest) 13 c e in
    let two : sids ≡ (sid ++ 32 ∷ floor) ++ 13 ∷ 10 ∷ rest =
    behind_one sids sid behind_sid floors 32 b t
    ∙ (ap (λ (x : List ℕ). sid ++ 32 ∷ x) ends ∙ sym (append_assoc sid (32 ∷ floor) (13 ∷ 10 ∷ rest))) in
    let one : args ≡ (key ++ 32 ∷ (sid ++ 32 ∷ floor)) ++ 13 ∷ 10 ∷ rest =
    behind_one args key behind_key sids 32 a s
    ∙ (ap (λ (x : List ℕ). key ++ 32 ∷ x) two ∙ sym (append_assoc key (32 ∷ (sid ++ 32 ∷ floor)) (13 ∷ 10 ∷ rest))) in
    v ∙ ap (λ (x : List ℕ). lease_text lease.IqGet ++ 32 ∷ x) one

-- digits may stand in a key
number_bytes : (word : List ℕ) (number : ℕ) → IsNumber word number → list_all is_key_byte word ≡ true
number_bytes word number h = digit_bytes word (numeral_parts word h.form).2

-- a key that is served is a word
key_parts : (word : List ℕ) → is_key word ≡ true → (1 ≤ length word) × (list_all is_key_byte word ≡ true)
key_parts word e =
    let all : (nat_le 1 (length word) && nat_le (length word) 250) && list_all is_key_byte word ≡ true = e in
    let one = and_parts (nat_le 1 (length word) && nat_le (length word) 250) (list_all is_key_byte word) all in
    let two = and_parts (nat_le 1 (length word)) (nat_le (length word) 250) one.0 in
    let low : nat_le 1 (length word) ≡ true = two.0 in
    (grind (arith, nat_tests), one.1)

-- these words stand first as the line of a lookup
pub lookup_stands : (stream args behind_key sids behind_sid floors behind_floor rest : List ℕ) (key : QKey) (sid floor : ℕ)
    → stream ≡ lease_text lease.IqGet ++ 32 ∷ args
    → BeginsWithKey args key behind_key → behind_key ≡ 32 ∷ sids
    → BeginsWithNumber sids sid behind_sid → behind_sid ≡ 32 ∷ floors
    → BeginsWithNumber floors floor behind_floor → behind_floor ≡ 13 ∷ 10 ∷ rest
    → length stream - length rest ≤ 2050
    → IsCommand stream (IqGet (Some key) (record { number = sid }) floor) (length stream - length rest)
lookup_stands stream args behind_key sids behind_sid floors behind_floor rest key sid floor v k s n t m e short =
    let form = served_form k.word key k.key_is in
    let kp = key_parts k.word form in
    let np = numeral_parts n.digits n.number_is.form in
    let mp = numeral_parts m.digits m.number_is.form in
    let na = number_bytes n.digits sid n.number_is in
    let ma = number_bytes m.digits floor m.number_is in
    let line = lookup_line k.word n.digits m.digits in
    let whole : stream ≡ line ++ 13 ∷ 10 ∷ rest =
    stream_is stream args k.word behind_key sids n.digits behind_sid floors m.digits behind_floor rest v k.text_is s n.text_is t m.text_is e in
    let long : length stream ≡ length line + (length rest + 2) =
    ap (λ (x : List ℕ). length x) whole ∙ (length-append line (13 ∷ 10 ∷ rest) ∙ omega arith) in
    let words : words_in line ≡ lease_text lease.IqGet ∷ k.word ∷ n.digits ∷ m.digits ∷ [] =
    lookup_words k.word n.digits m.digits kp.1 na ma kp.0 np.0 mp.0 in
    let bytes : list_all is_line_byte line ≡ true =
    bytes_behind (lease_text lease.IqGet) (k.word ++ 32 ∷ (n.digits ++ 32 ∷ m.digits)) refl
    (bytes_behind k.word (n.digits ++ 32 ∷ m.digits) kp.1 (bytes_behind n.digits m.digits na (word_bytes m.digits ma))) in
    record {
      long = length line;
      line = subst (λ (x : List ℕ). IsLine x (length line)) (sym whole) (line_stands line rest bytes (omega (arith, long, short)));
      says =
          subst (λ (ws : List (List ℕ)). AreWords (IqGet (Some key) (record { number = sid }) floor) ws)
          (sym (ap (λ (x : List ℕ). words_in (take (length line) x)) whole ∙ (ap (λ (x : List ℕ). words_in x) (take-append_seam line (13 ∷ 10 ∷ rest)) ∙ words)))
          (refl, (record { form = form; names = k.key_is }, (n.number_is, (m.number_is, refl))));
      block = refl;
      taken_is = omega (arith, long);
    }
