-- The parts of a cache's body are told by the bytes.
use Rattle.std.proofs.Common.{ℕ, zero, suc, ◌≡◌, ◌<◌, ◌≤◌, ◌^◌, ◌==◌, false, List, [], ◌∷◌, ◌++◌, length, map, decimal, Some}
use Rattle.std.proofs.Common.{arith, refl, sym, ap, ◌∙◌, append_assoc, append-nil, length-append, subst}
use Rattle.std.specs.Prelude.{slice_get}
use Rattle.shard_dump.specs.declared.rows.Dump.{Dump}
use Rattle.shard_dump.specs.Texts.{dump_text, IsDumpText}
use Rattle.shard_dump.proofs.TextLemmas.{number_once, front_once}
use Rattle.shard_dump.proofs.LawLemmas.{texts_tell}
use Rattle.cache_file.specs.declared.faults.CacheFault.{CacheFault}
use Rattle.cache_file.specs.declared.faults.CacheFault.TheVariants.{Bad, Memory}
use Rattle.cache_file.specs.Texts.{part_text, body_text, IsDumpOf, AreInOrder, AreDumps, IsFaultOf}
use Rattle.cache_file.specs.Reading.{IsBody, BeginsWith, HasNoPart, HasNoDump}

-- a part, and what stands behind it
pub part_regrouped : (dump rest : List ℕ) → part_text dump ++ rest ≡ decimal (length dump) ++ 10 ∷ (dump ++ rest)
part_regrouped dump rest = append_assoc (decimal (length dump)) (10 ∷ dump) rest

-- a part is longer than its dump
pub part_long : (text dump rest : List ℕ) → text ≡ part_text dump ++ rest → length dump ≤ length text
part_long text dump rest e =
    let whole : length text ≡ length (part_text dump ++ rest) = ap length e in
    let parts = length-append (part_text dump) rest in
    let words = length-append (decimal (length dump)) (10 ∷ dump) in
    omega (arith, whole, parts, words)

-- one part stands in front
pub part_once : (a b x y : List ℕ) → length a < 2 ^ 64 → length b < 2 ^ 64 → part_text a ++ x ≡ part_text b ++ y → (a ≡ b) × (x ≡ y)
part_once a b x y h k e =
    let number = number_once 10 (length a) (length b) (a ++ x) (b ++ y) (omega arith) h k (sym (part_regrouped a x) ∙ (e ∙ part_regrouped b y)) in
    front_once a b x y number.0 number.1

-- a dump of a shard has its text
pub dump_of-text : (count shard : ℕ) (dump : Dump) → IsDumpOf count shard dump → IsDumpText (dump_text dump) dump
dump_of-text count shard dump h = record { right = h.right; rows = h.rows; written = refl }

-- dumps of which each has its text
abbrev pub HaveTexts : List Dump → Type 0
HaveTexts dumps = (place : ℕ) (dump : Dump) → slice_get dumps place ≡ Some dump → IsDumpText (dump_text dump) dump

pub in_order-texts : (count : ℕ) (dumps : List Dump) → AreInOrder count dumps → HaveTexts dumps
in_order-texts count dumps h place dump e = dump_of-text count place dump (h place dump e)

-- what a text has behind the parts of the first dumps are the parts of the others
pub record Others (front all : List Dump) (rest : List ℕ) : Type 0 where
  pub more : List Dump
  pub parts : all ≡ front ++ more
  pub written : rest ≡ body_text (map dump_text more)

-- two dumps whose texts are one are one
same_dump : (a b : Dump) → IsDumpText (dump_text a) a → IsDumpText (dump_text b) b → dump_text a ≡ dump_text b → a ≡ b
same_dump a b h k e = texts_tell.one_dump (dump_text a) a b h (record { right = k.right; rows = k.rows; written = e })

pub others_behind : (front all : List Dump) (text rest : List ℕ) → HaveTexts front → HaveTexts all → length front ≤ length all → length text < 2 ^ 64
    → text ≡ body_text (map dump_text front) ++ rest → text ≡ body_text (map dump_text all) → Others front all rest
others_behind [] all text rest h k few small e f = record { more = all; parts = refl; written = sym e ∙ f }
others_behind (a ∷ front) [] text rest h k few small e f = absurd (omega arith)
others_behind (a ∷ front) (b ∷ all) text rest h k few small e f =
    let x : List ℕ = body_text (map dump_text front) ++ rest in
    let y : List ℕ = body_text (map dump_text all) in
    let grouped : text ≡ part_text (dump_text a) ++ x = e ∙ append_assoc (part_text (dump_text a)) (body_text (map dump_text front)) rest in
    let first : length (dump_text a) ≤ length text = part_long text (dump_text a) x grouped in
    let second : length (dump_text b) ≤ length text = part_long text (dump_text b) y f in
    let once = part_once (dump_text a) (dump_text b) x y (omega arith) (omega arith) (sym grouped ∙ f) in
    let same : a ≡ b = same_dump a b (h 0 a refl) (k 0 b refl) once.0 in
    let lengths : length text ≡ length (part_text (dump_text a) ++ x) = ap length grouped in
    let sum = length-append (part_text (dump_text a)) x in
    let next = others_behind front all x rest (λ place dump g. h (suc place) dump g) (λ place dump g. k (suc place) dump g) (omega arith) (omega (arith, lengths, sum)) refl once.1 in
    let heads : b ∷ all ≡ a ∷ all = ap (λ (d : Dump). d ∷ all) (sym same) in
    let tails : a ∷ all ≡ a ∷ (front ++ next.more) = ap (λ (ds : List Dump). a ∷ ds) next.parts in
    record {
      more = next.more;
      parts = ◌∙◌ {b = a ∷ all} {c = a ∷ (front ++ next.more)} heads tails;
      written = next.written;
    }

-- the dump behind the first ones
pub get_behind : (front more : List Dump) (dump : Dump) → slice_get (front ++ dump ∷ more) (length front) ≡ Some dump
get_behind [] more dump = refl
get_behind (d ∷ front) more dump = get_behind front more dump

-- dumps to which one more is put: each of them is one of the first, or it
get_pushed : (P : ℕ → Dump → Type 0) (front : List Dump) (dump : Dump) → ((place : ℕ) (d : Dump) → slice_get front place ≡ Some d → P place d) → P (length front) dump
    → (place : ℕ) (d : Dump) → slice_get (front ++ dump ∷ []) place ≡ Some d → P place d
get_pushed P [] dump h p zero d e = let same : dump ≡ d = cc in subst (P 0) same p
get_pushed P [] dump h p (suc place) d e = absurd cc
get_pushed P (a ∷ front) dump h p zero d e = h 0 d e
get_pushed P (a ∷ front) dump h p (suc place) d e = get_pushed (λ n. P (suc n)) front dump (λ n f g. h (suc n) f g) p place d e

pub in_order-push : (count : ℕ) (front : List Dump) (dump : Dump) → AreInOrder count front → IsDumpOf count (length front) dump → AreInOrder count (front ++ dump ∷ [])
in_order-push count front dump h p = get_pushed (IsDumpOf count) front dump h p

-- the texts of dumps to which one more is put
pub body_pushed : (front : List Dump) (dump : Dump) (rest : List ℕ)
    → body_text (map dump_text (front ++ dump ∷ [])) ++ rest ≡ body_text (map dump_text front) ++ (part_text (dump_text dump) ++ rest)
body_pushed [] dump rest = ap (λ (t : List ℕ). t ++ rest) (append-nil (part_text (dump_text dump)))
body_pushed (d ∷ front) dump rest =
    append_assoc (part_text (dump_text d)) (body_text (map dump_text (front ++ dump ∷ []))) rest
    ∙ ap (λ (t : List ℕ). part_text (dump_text d) ++ t) (body_pushed front dump rest)
    ∙ sym (append_assoc (part_text (dump_text d)) (body_text (map dump_text front)) (part_text (dump_text dump) ++ rest))

-- a text that begins with the parts of some dumps, and then has the part of the next one
pub begins_more : (count : ℕ) (text : List ℕ) (dumps : List Dump) (dump : Dump) (rest more : List ℕ) → BeginsWith count text dumps rest → length dumps < count
    → IsDumpOf count (length dumps) dump → rest ≡ part_text (dump_text dump) ++ more → BeginsWith count text (dumps ++ dump ∷ []) more
begins_more count text dumps dump rest more h few right e =
    let lengths = length-append dumps (dump ∷ []) in
    record {
      few = omega (arith, lengths, few);
      in_order = in_order-push count dumps dump h.in_order right;
      written = h.written ∙ ap (λ (t : List ℕ). body_text (map dump_text dumps) ++ t) e ∙ sym (body_pushed dumps dump more);
    }

-- no dump of a body is missing, where more are to come and the next part isn't there
missing : (count : ℕ) (dumps all more : List Dump) (rest : List ℕ) → AreDumps count all → length dumps < count → HasNoPart count (length dumps) rest
    → all ≡ dumps ++ more → rest ≡ body_text (map dump_text more) → ⊥
missing count dumps all [] rest h few none e f =
    let lengths : length all ≡ length dumps = ap length (e ∙ append-nil dumps) in
    omega (arith, lengths, h.all, few)
missing count dumps all (d ∷ more) rest h few none e f =
    let there : slice_get all (length dumps) ≡ Some d = ap (λ (ds : List Dump). slice_get ds (length dumps)) e ∙ get_behind dumps more d in
    none d (body_text (map dump_text more)) (h.in_order (length dumps) d there) f

-- where the next part is missing, the text is no body
pub no_next : (count : ℕ) (text : List ℕ) (dumps : List Dump) (rest : List ℕ) → BeginsWith count text dumps rest → length text < 2 ^ 64 → length dumps < count
    → HasNoPart count (length dumps) rest → (all : List Dump) → IsBody count text all → ⊥
no_next count text dumps rest h small few none all b =
    let o = others_behind dumps all text rest (in_order-texts count dumps h.in_order) (in_order-texts count all b.are.in_order) (omega (arith, b.are.all, few)) small h.written b.written in
    missing count dumps all o.more rest b.are few none o.parts o.written

-- what a test finds not to be 0
pub some_by : (n : ℕ) → (n == 0) ≡ false → 0 < n
some_by zero e = absurd cc
some_by (suc n) e = omega arith

-- no dumps have no parts
no_parts : (more : List Dump) (rest : List ℕ) → rest ≡ body_text (map dump_text more) → length more ≡ 0 → length rest ≡ 0
no_parts [] rest e none = ap length e
no_parts (d ∷ more) rest e none = absurd (omega (arith, none))

-- where all parts are there and bytes stand behind them, the text is no body
pub no_more : (count : ℕ) (text : List ℕ) (dumps : List Dump) (rest : List ℕ) → BeginsWith count text dumps rest → length text < 2 ^ 64 → length dumps ≡ count
    → 0 < length rest → (all : List Dump) → IsBody count text all → ⊥
no_more count text dumps rest h small full some all b =
    let o = others_behind dumps all text rest (in_order-texts count dumps h.in_order) (in_order-texts count all b.are.in_order) (omega (arith, b.are.all, full)) small h.written b.written in
    let lengths : length all ≡ length (dumps ++ o.more) = ap length o.parts in
    let sum = length-append dumps o.more in
    let none : length o.more ≡ 0 = omega (arith, lengths, sum, b.are.all, full) in
    let empty : length rest ≡ 0 = no_parts o.more rest o.written none in
    omega (arith, empty, some)

-- a list with no more behind it
alike : (a b more : List Dump) → b ≡ a ++ more → length more ≡ 0 → a ≡ b
alike a b [] e none = sym (e ∙ append-nil a)
alike a b (d ∷ more) e none = absurd (omega (arith, none))

-- a body is that of one list of dumps
pub one_body : (count : ℕ) (text : List ℕ) (a b : List Dump) → length text < 2 ^ 64 → IsBody count text a → IsBody count text b → a ≡ b
one_body count text a b small h k =
    let written : text ≡ body_text (map dump_text a) ++ [] = h.written ∙ sym (append-nil (body_text (map dump_text a))) in
    let o = others_behind a b text [] (in_order-texts count a h.are.in_order) (in_order-texts count b k.are.in_order) (omega (arith, h.are.all, k.are.all)) small written k.written in
    let lengths : length b ≡ length (a ++ o.more) = ap length o.parts in
    let sum = length-append a o.more in
    alike a b o.more o.parts (omega (arith, lengths, sum, h.are.all, k.are.all))

-- a fault whose cause implies another
pub fault_more : (P Q : Type 0) (fault : CacheFault) → (P → Q) → IsFaultOf P fault → IsFaultOf Q fault
fault_more P Q Bad f h = f h
fault_more P Q Memory f h = tt

-- where the part in front is no dump's, no dump of the shard has its part there
pub no_part : (count shard : ℕ) (text part rest : List ℕ) → text ≡ part_text part ++ rest → length text < 2 ^ 64 → HasNoDump part → HasNoPart count shard text
no_part count shard text part rest cut small none dump other right e =
    let first : length part ≤ length text = part_long text part rest cut in
    let second : length (dump_text dump) ≤ length text = part_long text (dump_text dump) other e in
    let once = part_once part (dump_text dump) rest other (omega arith) (omega arith) (sym cut ∙ e) in
    none dump (record { right = right.right; rows = right.rows; written = once.0 })

-- nor where it is that of a dump that isn't the shard's
pub other_part : (count shard : ℕ) (text part rest : List ℕ) (read : Dump) → text ≡ part_text part ++ rest → length text < 2 ^ 64 → IsDumpText part read
    → (read.shard ≡ shard → read.count ≡ count → ⊥) → HasNoPart count shard text
other_part count shard text part rest read cut small found none dump other right e =
    let first : length part ≤ length text = part_long text part rest cut in
    let second : length (dump_text dump) ≤ length text = part_long text (dump_text dump) other e in
    let once = part_once part (dump_text dump) rest other (omega arith) (omega arith) (sym cut ∙ e) in
    let same : read ≡ dump = texts_tell.one_dump part read dump found (record { right = right.right; rows = right.rows; written = once.0 }) in
    none (ap (λ (d : Dump). d.shard) same ∙ right.shard_is) (ap (λ (d : Dump). d.count) same ∙ right.count_is)
