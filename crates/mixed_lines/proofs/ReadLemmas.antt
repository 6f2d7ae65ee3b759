-- What is read of a stream.
use Rattle.std.proofs.Common.{ℕ, ◌+◌, ◌≡◌, ◌<◌, ◌≤◌, ◌⊎◌, inl, inr, Bool, List, [], ◌∷◌, length, take, drop, Some, arith, refl, sym, ap, ◌∙◌}
use Rattle.mc_text.specs.Words.{words_in}
use Rattle.mc_text.specs.Telling.{IsEndless}
use Rattle.mc_text.specs.PlainVerbs.{text_of}
use Rattle.mc_text.specs.PlainLines.{said_with, IsHead, IsNoHead, SayWhole, IsNoWhole}
use Rattle.mc_text.specs.declared.plain_lines.PlainHead.{PlainHead}
use Rattle.mc_text.specs.declared.plain_lines.PlainSaid.{PlainSaid}
use Rattle.mc_text.specs.declared.plain_verb_words.PlainVerb.{PlainVerb}
use Rattle.mc_text.proofs.FrontLemmas.{line_once}
use Rattle.mc_text.specs.Framing as framing
use Rattle.mc_text.specs.Framing.{Frames}
use Rattle.mc_text.specs.Streams as leases
use Rattle.mc_text.specs.Commands.{verb_of, AreWords}
use Rattle.mc_text.specs.Verbs.{lease_text}
use Rattle.mc_text.specs.declared.commands.Command.{Command}
use Rattle.mc_text.specs.declared.commands.Command.TheVariants.{IqGet}
use Rattle.mc_text.specs.declared.verb_words.LeaseVerb.TheVariants as lease
use Rattle.mc_text.specs.declared.verb_words.LeaseVerb.{LeaseVerb}
use Rattle.mc_text.specs.declared.verb_words.Verb.TheVariants.{Lease, Plain}
use Rattle.mc_text.proofs.VerbLemmas.{verb_once}
use Rattle.mc_text.specs.declared.faults.FrameFault.{FrameFault}
use Rattle.mc_text.specs.declared.faults.FrameFault.TheVariants as frame
use Rattle.mixed_lines.specs.Fronts.{Takes, Faults}
use Rattle.mixed_lines.specs.Items.{IsNoPlainLine, IsWhole, IsHeaded, IsWithBlock, IsBadPlain, HasBigPlain, HasBadPlain, AwaitsBlock}
use Rattle.mixed_lines.specs.Items.{command, plain, bad_line, long_line, bad_block, big_block, IsFirst, IsOpen}
use Rattle.mixed_lines.proofs.ItemLemmas.{first_once}

-- a lease command is taken, where no line of a plain one stands
pub lease_taken : (old new : Frames) (said : Command) → IsNoPlainLine old.rest → framing.Takes old (leases.command said) new → Takes old (command said) new
lease_taken old new said none t = record { taken = t.taken; stands = (t.stands, none); goes_on = t.goes_on }

-- and a fault is one of the whole grammar
pub lease_fault : (old new : Frames) (fault : FrameFault) → IsNoPlainLine old.rest → framing.Faults old fault new → Faults old fault new
lease_fault old new (frame.BadLine place) none f = (f.0, record { taken = f.1.taken; stands = inl (f.1.stands, none); goes_on = f.1.goes_on })
lease_fault old new (frame.LongLine place) none f = (f.0, ((f.1.stands.0, refl), none))
lease_fault old new (frame.BadBlock place) none f = (f.0, inl ((f.1.stands.0, refl), none))
lease_fault old new (frame.BigBlock place) none f = (f.0, inl ((f.1.stands.0, refl), none))
lease_fault old new frame.Memory none f = f.1

-- no line stands first
pub no_line : (stream : List ℕ) → IsEndless stream 2049 → IsNoPlainLine stream
no_line stream none long verb args p = let short = p.line.short in none long (omega arith) p.line.ends

-- or one without a word
pub no_word : (stream : List ℕ) (long : ℕ) → leases.IsLine stream long → words_in (take long stream) ≡ [] → IsNoPlainLine stream
no_word stream long line none at verb args p =
    let same : at ≡ long = line_once stream at long p.line line in
    let no : text_of verb ∷ args ≡ [] = sym p.words ∙ (ap (λ (n : ℕ). words_in (take n stream)) same ∙ none) in
    absurd cc

-- or one whose first word is no verb of a plain command
pub no_verb : (stream : List ℕ) (long : ℕ) (word : List ℕ) (rest : List (List ℕ)) → leases.IsLine stream long
    → words_in (take long stream) ≡ word ∷ rest → ((v : PlainVerb) → word ≡ text_of v → ⊥) → IsNoPlainLine stream
no_verb stream long word rest line words none at verb args p =
    let same : at ≡ long = line_once stream at long p.line line in
    let both : word ∷ rest ≡ text_of verb ∷ args = sym words ∙ (ap (λ (n : ℕ). words_in (take n stream)) (sym same) ∙ p.words) in
    none verb (first_once word (text_of verb) rest args both)

-- the words behind a verb, where that is the first word
pub verb_words : (stream : List ℕ) (long : ℕ) (word : List ℕ) (rest : List (List ℕ)) (v : PlainVerb) → words_in (take long stream) ≡ word ∷ rest
    → word ≡ text_of v → words_in (take long stream) ≡ text_of v ∷ rest
verb_words stream long word rest v words is = words ∙ ap (λ (w : List ℕ). w ∷ rest) is

-- what the words behind the verb say
pub whole_front : (stream : List ℕ) (long : ℕ) (v : PlainVerb) (args : List (List ℕ)) (said : PlainSaid) (noreply : Bool)
    → leases.IsLine stream long → words_in (take long stream) ≡ text_of v ∷ args → SayWhole v args said noreply → IsWhole stream said noreply (long + 2)
whole_front stream long v args said noreply line words says =
    record { long = long; verb = v; args = args; line = record { line = line; words = words }; says = says; taken_is = refl }

pub headed_line : (stream : List ℕ) (long : ℕ) (v : PlainVerb) (args : List (List ℕ)) (head : PlainHead)
    → leases.IsLine stream long → words_in (take long stream) ≡ text_of v ∷ args → IsHead v args head → IsHeaded stream long head
headed_line stream long v args head line words says = record { verb = v; args = args; line = record { line = line; words = words }; says = says }

pub bad_front : (stream : List ℕ) (long : ℕ) (v : PlainVerb) (args : List (List ℕ))
    → leases.IsLine stream long → words_in (take long stream) ≡ text_of v ∷ args → IsNoWhole v args × IsNoHead v args → IsBadPlain stream (long + 2)
bad_front stream long v args line words none = record {
  long = long;
  verb = v;
  args = args;
  line = record { line = line; words = words };
  no_whole = none.0;
  no_head = none.1;
  taken_is = refl;
}

-- what stands behind a line that announces a block
pub big_front : (stream : List ℕ) (long : ℕ) (head : PlainHead) → IsHeaded stream long head → 1048576 < head.fields.bytes → HasBigPlain stream
big_front stream long head line big = record { long = long; head = head; line = line; big = big }

pub open_front : (stream : List ℕ) (long : ℕ) (head : PlainHead) → IsHeaded stream long head → head.fields.bytes ≤ 1048576
    → length stream < long + 2 + head.fields.bytes + 2 → AwaitsBlock stream
open_front stream long head line small short = record { long = long; head = head; line = line; small = small; short = short }

pub wrong_front : (stream : List ℕ) (long : ℕ) (head : PlainHead) → IsHeaded stream long head → head.fields.bytes ≤ 1048576
    → long + 2 + head.fields.bytes + 1 < length stream → (leases.EndsAt stream (long + 2 + head.fields.bytes) → ⊥) → HasBadPlain stream
wrong_front stream long head line small there wrong =
    record { long = long; head = head; line = line; small = small; there = there; wrong = wrong }

pub block_front : (stream : List ℕ) (long : ℕ) (head : PlainHead) (block : List ℕ) (said : PlainSaid) → IsHeaded stream long head
    → head.fields.bytes ≤ 1048576 → leases.EndsAt stream (long + 2 + head.fields.bytes) → block ≡ take head.fields.bytes (drop (long + 2) stream)
    → said ≡ said_with head block → IsWithBlock stream said head.noreply (long + 2 + head.fields.bytes + 2)
block_front stream long head block said line small ends is said_is = record {
  long = long;
  head = head;
  line = line;
  block = block;
  block_is = (small, ends, is);
  said_is = said_is;
  noreply_is = refl;
  taken_is = omega arith;
}

-- a plain command is taken, or a bad line
pub front_taken : (old new : Frames) (said : PlainSaid) (noreply : Bool) (taken : ℕ)
    → IsWhole old.rest said noreply taken ⊎ IsWithBlock old.rest said noreply taken → new ≡ framing.past old taken → Takes old (plain said noreply) new
front_taken old new said noreply taken stands is = record { taken = taken; stands = stands; goes_on = is }

pub bad_taken : (old new : Frames) (taken : ℕ) → IsBadPlain old.rest taken → new ≡ framing.past old taken → Takes old bad_line new
bad_taken old new taken bad is = record { taken = taken; stands = inr bad; goes_on = is }

-- no verb of a lease command is one of a plain one
no_plain : (verb : LeaseVerb) (v : PlainVerb) → lease_text verb ≡ text_of v → ⊥
no_plain verb v e = let same : Lease verb ≡ Plain v = verb_once (Lease verb) (Plain v) e in absurd cc

-- a lookup that stands first by the grammar of lease commands
pub lookup_stands : (stream : List ℕ) (said : Command) (taken : ℕ) → leases.IsCommand stream said taken → verb_of said ≡ Some lease.IqGet
    → IsFirst stream (command said) taken
lookup_stands stream said taken c is = (c, by said is (words_in (take c.long stream)) refl c.says)
  where
    by : (x : Command) → verb_of x ≡ Some lease.IqGet → (words : List (List ℕ)) → words_in (take c.long stream) ≡ words → AreWords x words
        → IsNoPlainLine stream
    by (IqGet key sid floor) at [] e says = absurd says
    by (IqGet key sid floor) at (word ∷ rest) e says =
        no_verb stream c.long word rest c.line e (λ v same. no_plain lease.IqGet v (sym says.0 ∙ same))
    by other at words e says = absurd cc

-- nothing stands in a stream that has no byte
no_line_in : (stream : List ℕ) (long : ℕ) → length stream ≡ 0 → leases.IsLine stream long → ⊥
no_line_in stream long none line = let whole = line.ends.whole in absurd (omega arith)

pub nothing_stands : (stream : List ℕ) → length stream ≡ 0 → IsOpen stream
nothing_stands stream none (command said) taken h = no_line_in stream h.0.long none h.0.line
nothing_stands stream none (plain said noreply) taken (inl h) = no_line_in stream h.long none h.line.line
nothing_stands stream none (plain said noreply) taken (inr h) = no_line_in stream h.long none h.line.line.line
nothing_stands stream none bad_line taken (inl h) = no_line_in stream h.0.long none h.0.line
nothing_stands stream none bad_line taken (inr h) = no_line_in stream h.long none h.line.line
nothing_stands stream none long_line taken h = let enough = h.0.0.enough in absurd (omega arith)
nothing_stands stream none bad_block taken (inl h) = no_line_in stream h.0.0.long none h.0.0.line.line
nothing_stands stream none bad_block taken (inr h) = no_line_in stream h.0.long none h.0.line.line.line
nothing_stands stream none big_block taken (inl h) = no_line_in stream h.0.0.long none h.0.0.line.line
nothing_stands stream none big_block taken (inr h) = no_line_in stream h.0.long none h.0.line.line.line
