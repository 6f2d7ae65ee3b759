-- Texts that are written over room, one behind another.
use Rattle.std.proofs.Common.{ℕ, ◌+◌, ◌≡◌, ◌<◌, List, [], ◌∷◌, ◌++◌, length, take, codes, decimal, arith, refl, sym, ap, subst, ◌∙◌}
use Rattle.std.specs.Prelude.{Result, Ok, Err, OnOk}
use Rattle.std.proofs.lemmas.List.{length-append, append_assoc}
use Rattle.std.proofs.Math.Seq.{take-append_seam}
use Rattle.rows_model.specs.declared.keys.QKey.{QKey}
use Rattle.rows_model.specs.Key.{word_of, key_text}
use Rattle.rows_model.proofs.KeyLemmas.{key_text_is}
use Rattle.mc_text.specs.Replies.{line, stamped_text}
use Rattle.mc_text.specs.ReplyParts.{numbers_text, lines_text, Writes}
use Rattle.mc_text.proofs.DecimalLemmas.{one_digit, two_digits}

-- a text behind another
pub writes_on : (old mid new : List ℕ) (a b c : ℕ) (xs ys : List ℕ) → Writes old a xs mid b → Writes mid b ys new c → Writes old a (xs ++ ys) new c
writes_on old mid new a b c xs ys h k = record {
  behind = k.behind ∙ (ap (λ (t : List ℕ). t ++ ys) h.behind ∙ append_assoc (take a old) xs ys);
  ends = let l = length-append xs ys in omega (arith, l, h.ends, k.ends);
  as_long = k.as_long ∙ h.as_long;
}

-- a decimal of one digit, and one of two
pub writes_one : (old new : List ℕ) (a b number : ℕ) → number < 10 → Writes old a ((48 + number) ∷ []) new b → Writes old a (decimal number) new b
writes_one old new a b number small h = subst (λ (t : List ℕ). Writes old a t new b) (sym (one_digit number small)) h

-- parts that are written one behind another are the whole
parts_joined : (old v w c i z l s n e x y : List ℕ)
    → old ++ (v ++ w ++ c) ++ (i ++ z ++ l ++ s ++ n ++ e) ++ (x ++ y) ≡ old ++ (v ++ (w ++ (c ++ i)) ++ z ++ l ++ (s ++ n) ++ e ++ x ++ y)
parts_joined old v w c i z l s n e x y = simp append_assoc refl

-- the parts of a value with its stamp
pub stamped_parts : (old front first whole value : List ℕ) (key : QKey) (stamp : ℕ)
    → front ≡ old ++ (codes "VALUE " ++ word_of key.kind ++ codes ":")
    → first ≡ front ++ numbers_text key.id (length value) stamp
    → whole ≡ first ++ lines_text value
    → whole ≡ old ++ stamped_text key stamp value
stamped_parts old front first whole value key stamp e f g =
    let text : key_text key ≡ word_of key.kind ++ (codes ":" ++ decimal key.id) = key_text_is key in
    let written : whole ≡ old ++ (codes "VALUE " ++ word_of key.kind ++ codes ":") ++ numbers_text key.id (length value) stamp ++ lines_text value =
    g ∙ ap (λ (t : List ℕ). t ++ lines_text value) (f ∙ ap (λ (t : List ℕ). t ++ numbers_text key.id (length value) stamp) e) in
    subst
    (λ (k : List ℕ). whole ≡ old ++ (line (codes "VALUE " ++ k ++ codes " 0 " ++ decimal (length value) ++ (codes " " ++ decimal stamp)) ++ line value ++ line (codes "END")))
    (sym text)
    (written
    ∙ parts_joined old (codes "VALUE ") (word_of key.kind) (codes ":") (decimal key.id) (codes " 0 ") (decimal (length value)) (codes " ")
    (decimal stamp) (codes "\r\n") (line value) (line (codes "END")))

-- they are written where the last was, over bytes that are those of the value
pub stamped_ok : {T E : Type 0} (r : Result T E) (old front first whole value one two : List ℕ) (key : QKey) (stamp : ℕ) → one ≡ value → two ≡ value
    → front ≡ old ++ (codes "VALUE " ++ word_of key.kind ++ codes ":")
    → first ≡ front ++ numbers_text key.id (length one) stamp
    → OnOk r (whole ≡ first ++ lines_text two)
    → OnOk r (whole ≡ old ++ stamped_text key stamp value)
stamped_ok (Ok x) old front first whole value one two key stamp same again e f g =
    stamped_parts old front first whole value key stamp e (f ∙ ap (λ (v : List ℕ). front ++ numbers_text key.id (length v) stamp) same)
    (g ∙ ap (λ (v : List ℕ). first ++ lines_text v) again)
stamped_ok (Err x) old front first whole value one two key stamp same again e f g = g
