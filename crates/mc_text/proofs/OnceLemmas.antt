-- What words say they say once: the verb of a command, and how many bytes its block has.
use Rattle.std.proofs.Common.{ℕ, ◌≡◌, ◌⊎◌, inl, inr, List, [], ◌∷◌, get_or, Option, Some, None, refl, sym, ap, ◌∙◌}
use Rattle.std.specs.Prelude.{true}
use Rattle.mc_text.specs.declared.verb_words.LeaseVerb.{LeaseVerb}
use Rattle.mc_text.specs.declared.verb_words.LeaseVerb.TheVariants as lease
use Rattle.mc_text.specs.Verbs.{lease_text}
use Rattle.rows_model.specs.declared.keys.QKey.{QKey}
use Rattle.rows_model.specs.declared.keys.Sid.{Sid}
use Rattle.rows_model.specs.Shift.{number_from}
use Rattle.mc_text.specs.declared.commands.Command.{Command}
use Rattle.mc_text.specs.declared.commands.Command.TheVariants.{IqSet, Sar}
use Rattle.mc_text.specs.declared.commands.Command.TheVariants.{Unknown}
use Rattle.mc_text.specs.declared.commands.Head.{Head}
use Rattle.mc_text.specs.declared.commands.Head.TheVariants as head
use Rattle.mc_text.specs.Commands.{verb_of, AreArgs, AreWords, AreUnknown, announced, has_body}
use Rattle.mc_text.specs.Parsing.{with_block}
use Rattle.mc_text.proofs.VerbLemmas.{row_of, listed, lease_once}

-- the words begin with the verb of a command, and these stand behind it
pub record Spells (command : Command) (words : List (List ℕ)) : Type 0 where
  pub named : LeaseVerb
  pub named_is : verb_of command ≡ Some named
  pub word : List ℕ
  pub args : List (List ℕ)
  pub words_are : words ≡ word ∷ args
  pub verb : word ≡ lease_text named
  pub says : AreArgs command args

-- what is unknown has no verb in front
pub record IsStrange (command : Command) (words : List (List ℕ)) : Type 0 where
  pub is : command ≡ Unknown
  pub none : AreUnknown words

-- a command is unknown, or begins with its verb
pub spelled : (command : Command) (words : List (List ℕ)) → AreWords command words → IsStrange command words ⊎ Spells command words
spelled Unknown words h = inl (record { is = refl; none = h })
spelled command [] h = absurd h
spelled command (word ∷ args) h = inr (record { named = _; named_is = refl; word = word; args = args; words_are = refl; verb = h.0; says = h.1 })

-- so words that begin with a verb aren't unknown
pub apart : (a b : Command) (words : List (List ℕ)) → IsStrange a words → Spells b words → ⊥
apart a b words strange known = (rw known.words_are at strange.none) (row_of known.named) (listed known.word known.named known.verb)

-- two that words spell are of one verb
pub one_verb : (a b : Command) (words : List (List ℕ)) → Spells a words → Spells b words → verb_of a ≡ verb_of b
one_verb a b words h k =
    let same : h.word ≡ k.word = ap (λ (ws : List (List ℕ)). get_or ws 0 []) (sym h.words_are ∙ k.words_are) in
    let one = lease_once h.named k.named (sym h.verb ∙ (same ∙ k.verb)) in
    h.named_is ∙ (ap (λ (v : LeaseVerb). Some v) one ∙ sym k.named_is)

-- the commands that words say are of one verb
pub verb_told : (a b : Command) (words : List (List ℕ)) → AreWords a words → AreWords b words → verb_of a ≡ verb_of b
verb_told a b words h k = by (spelled a words h) (spelled b words k)
  where
    by : IsStrange a words ⊎ Spells a words → IsStrange b words ⊎ Spells b words → verb_of a ≡ verb_of b
    by (inl s) (inl t) = ap verb_of (s.is ∙ sym t.is)
    by (inl s) (inr t) = absurd (apart a b words s t)
    by (inr s) (inl t) = absurd (apart b a words t s)
    by (inr s) (inr t) = one_verb a b words s t

-- how many bytes words announce behind this verb
abbrev pub announced_bytes : Option LeaseVerb → List (List ℕ) → Option ℕ
announced_bytes (Some lease.IqSet) words = Some (number_from 0 (get_or words 4 []))
announced_bytes (Some lease.Sar) words = Some (number_from 0 (get_or words 4 []))
announced_bytes verb words = None

bytes_of_set : (key : Option QKey) (flags exptime bytes token stamp : ℕ) (block : List ℕ) (words : List (List ℕ))
    → AreWords (IqSet key flags exptime bytes token stamp block) words → Some bytes ≡ announced_bytes (Some lease.IqSet) words
bytes_of_set key flags exptime bytes token stamp block [] h = absurd h
bytes_of_set key flags exptime bytes token stamp block (v ∷ []) h = absurd h.1
bytes_of_set key flags exptime bytes token stamp block (v ∷ a ∷ []) h = absurd h.1.1
bytes_of_set key flags exptime bytes token stamp block (v ∷ a ∷ b ∷ []) h = absurd h.1.1.1
bytes_of_set key flags exptime bytes token stamp block (v ∷ a ∷ b ∷ c ∷ []) h = absurd h.1.1.1.1
bytes_of_set key flags exptime bytes token stamp block (v ∷ a ∷ b ∷ c ∷ d ∷ words) h = ap (λ (n : ℕ). Some n) h.1.1.1.1.0.value

bytes_of_sar : (key : Option QKey) (flags exptime bytes : ℕ) (sid : Sid) (block : List ℕ) (words : List (List ℕ))
    → AreWords (Sar key flags exptime bytes sid block) words → Some bytes ≡ announced_bytes (Some lease.Sar) words
bytes_of_sar key flags exptime bytes sid block [] h = absurd h
bytes_of_sar key flags exptime bytes sid block (v ∷ []) h = absurd h.1
bytes_of_sar key flags exptime bytes sid block (v ∷ a ∷ []) h = absurd h.1.1
bytes_of_sar key flags exptime bytes sid block (v ∷ a ∷ b ∷ []) h = absurd h.1.1.1
bytes_of_sar key flags exptime bytes sid block (v ∷ a ∷ b ∷ c ∷ []) h = absurd h.1.1.1.1
bytes_of_sar key flags exptime bytes sid block (v ∷ a ∷ b ∷ c ∷ d ∷ words) h = ap (λ (n : ℕ). Some n) h.1.1.1.1.0.value

-- a command announces what its words do
bytes_announced : (command : Command) (words : List (List ℕ)) → AreWords command words → announced command ≡ announced_bytes (verb_of command) words
bytes_announced (IqSet key flags exptime bytes token stamp block) words h = bytes_of_set key flags exptime bytes token stamp block words h
bytes_announced (Sar key flags exptime bytes sid block) words h = bytes_of_sar key flags exptime bytes sid block words h
bytes_announced command words h = refl

-- words announce one block
pub announced_once : (a b : Command) (words : List (List ℕ)) → AreWords a words → AreWords b words → announced a ≡ announced b
announced_once a b words h k =
    bytes_announced a words h ∙ (ap (λ (v : Option LeaseVerb). announced_bytes v words) (verb_told a b words h k) ∙ sym (bytes_announced b words k))

-- words leave the block open
pub any_block : (front : Head) (block : List ℕ) (words : List (List ℕ)) → AreWords (with_block front []) words → AreWords (with_block front block) words
any_block (head.Set key flags exptime bytes token stamp) block [] h = h
any_block (head.Set key flags exptime bytes token stamp) block (word ∷ words) h = h
any_block (head.Sar key flags exptime bytes sid) block [] h = h
any_block (head.Sar key flags exptime bytes sid) block (word ∷ words) h = h

-- a head makes a command with a block
pub block_body : (front : Head) (block : List ℕ) → has_body (with_block front block) ≡ true
block_body (head.Set key flags exptime bytes token stamp) block = refl
block_body (head.Sar key flags exptime bytes sid) block = refl
