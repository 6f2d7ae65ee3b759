-- What was written or read so far, in a loop over pieces.
use Rattle.std.proofs.Common.{ℕ, ◌+◌, ◌-◌, ◌≤◌, ◌≡◌, ◌∙◌, ◌++◌, List, length, take, drop, arith, length-drop, length-append}
use Rattle.std.specs.Prelude.{Option}
use Rattle.std.proofs.Math.Seq.{take-add}
use Rattle.std.proofs.lemmas.List.{take_rest}
use Rattle.iq_outside.specs.Outside.{Takes, TakesAtMost, Gains, ReadSide}
use Rattle.iq_outside.proofs.OutsideLemmas.{Takes-append, Gains-append}

-- a sink has taken the first bytes, as many as were written, its count stands, and its reading is as it was
pub record HasWritten (taken_old taken_new : Option (List ℕ)) (faults_old faults_new : ℕ) (read_old read_new : ReadSide)
    (bytes : List ℕ) (written : ℕ) : Type 0 where
  pub gains : Gains taken_old taken_new (take written bytes)
  pub within : written ≤ length bytes
  pub stands : faults_new ≡ faults_old
  pub apart : read_new ≡ read_old

-- a write of the first bytes of the rest takes that many more
pub HasWritten-more : (a b c : Option (List ℕ)) (e f g : ℕ) (p q r : ReadSide) (bytes : List ℕ) (written count : ℕ)
    → HasWritten a b e f p q bytes written
    → Gains b c (take count (take (length bytes - written) (drop written bytes)))
    → count ≤ length (take (length bytes - written) (drop written bytes))
    → g ≡ f
    → r ≡ q
    → HasWritten a c e g p r bytes (written + count)
HasWritten-more a b c e f g p q r bytes written count so_far more within up aside =
    let more' : Gains b c (take count (drop written bytes)) = rw take_rest at more in
    let within' : count ≤ length (drop written bytes) = rw take_rest at within in
    let so_far_within = so_far.within in
    record {
      gains = rw take-add (Gains-append a b c _ _ so_far.gains more');
      within = omega (arith, length-drop {A = ℕ});
      stands = up ∙ so_far.stands;
      apart = aside ∙ so_far.apart;
    }

-- a source gave this text, of no more bytes than the limit, and its count stands
pub record HasRead (left_old left_new : Option (List ℕ)) (faults_old faults_new : ℕ) (text : List ℕ) (limit : ℕ) : Type 0 where
  pub takes : Takes left_old left_new text
  pub within : length text ≤ limit
  pub stands : faults_new ≡ faults_old

-- what a source gives in two calls is no more than the limit
pub TakesAtMost-append : (limit : ℕ) (a b c : Option (List ℕ)) (xs ys : List ℕ)
    → Takes a b xs → Takes b c ys → length xs + length ys ≤ limit → TakesAtMost limit a c
TakesAtMost-append limit a b c xs ys e f few =
    (xs ++ ys, Takes-append a b c xs ys e f, omega (arith, length-append {A = ℕ}, few))
