-- The words of a command are read as they stand.
use Rattle.std.proofs.Common.{inl, inr, ℕ, zero, suc, ◌≡◌, ◌<◌, ◌≤◌, ◌^◌, ◌∙◌, List, [], ◌∷◌, ◌++◌, length, get_or, map, Result, Ok, Err, refl, sym, ap, subst, arith, ne_eqb}
use Rattle.std.specs.Prelude.{All, IfOk, IfSome, MatchResult, Option, Some, None, ◌≢◌, codes, decimal, slice_get}
use Rattle.std.specs.Str.{IsUtf8, is_utf8}
use Rattle.std.proofs.lemmas.Fmt.{IsAscii-decimal, decimal_digit, decimal_nonempty, first_decimal}
use Rattle.std.proofs.lemmas.List.Elements.{All-cons, All-nil}
use Rattle.std.proofs.lemmas.Str.{IsUtf8-from_ascii, IsUtf8-from_is_utf8}
use Rattle.clap.specs.Words.{IsAmong, Text, fault_of}
use Rattle.clap.proofs.OnLiterals.{clap_on_literals}
use Rattle.clap.specs.declared.error.kind.ErrorKind.TheVariants.{DisplayHelp, DisplayVersion}
use Rattle.run_inputs.specs.declared.loads.WorkSpec.{WorkSpec}
use Rattle.run_inputs.specs.Loads.{IsWork}
use Rattle.run_inputs.specs.Words.{numbers_of}
use Rattle.sql_keeper.specs.declared.keepers.Place.{Place}
use Rattle.sql_keeper.specs.declared.keepers.Place.TheVariants.{Fresh, File}
use Rattle.run_words.specs.declared.words.Conns.{Conns}
use Rattle.run_words.specs.declared.words.Conns.TheVariants.{Number, Forever}
use Rattle.run_words.specs.declared.words.Words.{Words}
use Rattle.run_words.specs.declared.words.Words.TheVariants.{Replay, Work, Warm, Serve, Page}
use Rattle.run_words.specs.declared.words.WordsFault.{WordsFault}
use Rattle.run_words.specs.declared.words.WordsFault.TheVariants.{Usage, Memory}
use Rattle.run_words.specs.Program.{program}
use Rattle.run_words.specs.Words.{AreCommand, AreWords, CanBeNamed, IsConns, IsPlainText, conns_word, path_in, place_words, warm_path, warm_words, with_options}
use Rattle.run_words.specs.Reading.{AreSaid, AskForText, IsRead, IsSaid}
use Rattle.run_words.proofs.TakenLemmas.{ArePlain, AreTakenAs, HasPlainPath, IsPlainPath, IsPlainWord, replay_taken, work_taken, serve_taken, warm_taken}

-- ---- words are UTF-8, and begin with no hyphen

replay_utf8 : IsUtf8 (codes "replay")
unfolding clap_on_literals is_utf8
replay_utf8 = IsUtf8-from_is_utf8 (codes "replay") refl

work_utf8 : IsUtf8 (codes "work")
unfolding clap_on_literals is_utf8
work_utf8 = IsUtf8-from_is_utf8 (codes "work") refl

serve_utf8 : IsUtf8 (codes "serve")
unfolding clap_on_literals is_utf8
serve_utf8 = IsUtf8-from_is_utf8 (codes "serve") refl

warm_utf8 : IsUtf8 (codes "warm")
unfolding clap_on_literals is_utf8
warm_utf8 = IsUtf8-from_is_utf8 (codes "warm") refl

forever_utf8 : IsUtf8 (codes "forever")
unfolding clap_on_literals is_utf8
forever_utf8 = IsUtf8-from_is_utf8 (codes "forever") refl

forever_plain : IsPlainWord (codes "forever")
unfolding clap_on_literals
forever_plain = refl

option_utf8 : IsUtf8 (codes "--db")
unfolding clap_on_literals is_utf8
option_utf8 = IsUtf8-from_is_utf8 (codes "--db") refl

warm_option_utf8 : IsUtf8 (codes "--warm")
unfolding clap_on_literals is_utf8
warm_option_utf8 = IsUtf8-from_is_utf8 (codes "--warm") refl

decimal_utf8 : (n : ℕ) → n < 2 ^ 64 → IsUtf8 (decimal n)
decimal_utf8 n small = IsUtf8-from_ascii (decimal n) (IsAscii-decimal n small)

plain_from : (word : Text) → 0 < length word → (get_or word 0 0 ≡ 45 → ⊥) → IsPlainWord word
plain_from [] some other = absurd (omega arith)
plain_from (x ∷ rest) some other = ne_eqb x 45 other

plain_decimal : (n : ℕ) → n < 2 ^ 64 → IsPlainWord (decimal n)
plain_decimal zero small = subst IsPlainWord (sym (decimal_digit 0 (omega arith))) refl
plain_decimal (suc n) small =
    let first : 48 < get_or (decimal (suc n)) 0 0 = first_decimal (suc n) (omega arith) small in
    plain_from (decimal (suc n)) (decimal_nonempty (suc n) small) (λ e. omega (arith, e))

-- so is the word for how many connections are served
conns_utf8 : (conns : Conns) → IsConns conns → IsUtf8 (conns_word conns)
conns_utf8 (Number count) within = let few : count ≤ 1000000 = within.1 in decimal_utf8 count (omega (arith, few))
conns_utf8 Forever within = forever_utf8

conns_plain : (conns : Conns) → IsConns conns → IsPlainWord (conns_word conns)
conns_plain (Number count) within = let few : count ≤ 1000000 = within.1 in plain_decimal count (omega (arith, few))
conns_plain Forever within = forever_plain

plain_text : (text : Text) → 1 ≤ length text → slice_get text 0 ≢ Some 45 → IsPlainWord text
plain_text [] some other = absurd (omega arith)
plain_text (x ∷ rest) some other = ne_eqb x 45 (λ e. other (rw e refl))

plain_path : (place : Place) → CanBeNamed place → HasPlainPath place
plain_path Fresh named = tt
plain_path (File path) named = plain_text path named.some named.no_hyphen

plain_file : (warm : Option Text) → IfSome warm IsPlainText → IsPlainPath warm
plain_file None plain = tt
plain_file (Some path) plain = plain_text path plain.some plain.no_hyphen

plain_five : (a b c d e : Text) → IsPlainWord a → IsPlainWord b → IsPlainWord c → IsPlainWord d → IsPlainWord e → ArePlain (a ∷ b ∷ c ∷ d ∷ e ∷ [])
plain_five a b c d e p q r s t = (p, (q, (r, (s, (t, tt)))))

-- ---- the words of a command

all_five : (a b c d e : Text) → IsUtf8 a → IsUtf8 b → IsUtf8 c → IsUtf8 d → IsUtf8 e → All IsUtf8 (a ∷ b ∷ c ∷ d ∷ e ∷ [])
all_five a b c d e p q r s t =
    All-cons IsUtf8 a (b ∷ c ∷ d ∷ e ∷ []) p
    (All-cons IsUtf8 b (c ∷ d ∷ e ∷ []) q
    (All-cons IsUtf8 c (d ∷ e ∷ []) r (All-cons IsUtf8 d (e ∷ []) s (All-cons IsUtf8 e [] t (All-nil IsUtf8)))))

-- the words of the file of a cache, and others
all_filed : (warm : Option Text) (others : List Text) → IfSome warm IsPlainText → All IsUtf8 others → All IsUtf8 (warm_words warm ++ others)
all_filed None others plain q = q
all_filed (Some path) others plain q =
    All-cons IsUtf8 (codes "--warm") (path ∷ others) warm_option_utf8 (All-cons IsUtf8 path others plain.utf8 q)

-- a first word, those of a place, and others
all_placed : (place : Place) (first : Text) (others : List Text) → CanBeNamed place → IsUtf8 first → All IsUtf8 others
    → All IsUtf8 (first ∷ (place_words place ++ others))
all_placed Fresh first others named p q = All-cons IsUtf8 first others p q
all_placed (File path) first others named p q =
    All-cons IsUtf8 first (codes "--db" ∷ path ∷ others) p
    (All-cons IsUtf8 (codes "--db") (path ∷ others) option_utf8 (All-cons IsUtf8 path others named.utf8 q))

-- UTF-8, and taken as these words at this place, with this file of a cache
record Stand (words others : List Text) (place : Place) (warm : Option Text) : Type 0 where
  pub utf8 : All IsUtf8 words
  pub taken : AreTakenAs words others place warm

-- so do words that are a first word, those of a place and of the file of a cache, and others
stands : (words others : List Text) (place : Place) (warm : Option Text) (first : Text) (values : List Text)
    → words ≡ with_options place warm others → others ≡ first ∷ values
    → CanBeNamed place → IfSome warm IsPlainText → IsUtf8 first → All IsUtf8 values
    → AreTakenAs (first ∷ (place_words place ++ (warm_words warm ++ values))) (first ∷ values) place warm
    → Stand words others place warm
stands words others place warm first values written is named plain p q t =
    let same : words ≡ first ∷ (place_words place ++ (warm_words warm ++ values)) = written ∙ ap (with_options place warm) is in
    subst (λ (ws : List Text). Stand ws others place warm) (sym same)
    (subst (λ (os : List Text). Stand (first ∷ (place_words place ++ (warm_words warm ++ values))) os place warm) (sym is)
    (record { utf8 = all_placed place first (warm_words warm ++ values) named p (all_filed warm values plain q); taken = t }))

-- the numbers of a load are such words
load_words : (spec : WorkSpec) → IsWork spec → spec.seed < 2 ^ 64
    → All IsUtf8 (map decimal (numbers_of spec)) × ArePlain (map decimal (numbers_of spec))
load_words spec fits seed =
    let few_members : spec.members ≤ 100000 = fits.few_members in
    let few_sessions : spec.sessions ≤ 500000 = fits.few_sessions in
    let few_workers : spec.workers ≤ 1024 = fits.few_workers in
    let few_shards : spec.shards ≤ 64 = fits.few_shards in
    let small : (n : ℕ) → n ≤ 500000 → n < 2 ^ 64 = λ n few. omega (arith, few) in
    let members = small spec.members (omega arith) in
    let sessions = small spec.sessions (omega arith) in
    let workers = small spec.workers (omega arith) in
    let shards = small spec.shards (omega arith) in (
      all_five _ _ _ _ _ (decimal_utf8 spec.members members) (decimal_utf8 spec.sessions sessions) (decimal_utf8 spec.workers workers)
          (decimal_utf8 spec.shards shards) (decimal_utf8 spec.seed seed),
      plain_five _ _ _ _ _ (plain_decimal spec.members members) (plain_decimal spec.sessions sessions) (plain_decimal spec.workers workers)
          (plain_decimal spec.shards shards) (plain_decimal spec.seed seed),
    )

stand : (words : List Text) (command : Words) → (h : AreWords words command) → Stand words h.others h.place (warm_path command)
stand words (Replay at) h =
    stands words h.others h.place None (codes "replay") [] h.written h.are_command.1 h.named tt replay_utf8 (All-nil IsUtf8)
    (replay_taken h.place (plain_path h.place h.named))
stand words (Work at spec) h =
    let are = h.are_command.1 in
    let each = load_words spec are.fits are.seed_below in
    stands words h.others h.place None (codes "work") _ h.written are.written h.named tt work_utf8 each.0
    (work_taken h.place (plain_path h.place h.named) _ _ _ _ _ each.1)
stand words (Warm at spec) h =
    let are = h.are_command.1 in
    let load = are.are_load in
    let each = load_words spec load.fits load.seed_below in
    let behind = load.written in
    let numbers : are.numbers ≡ map decimal (numbers_of spec) = cc in
    stands words h.others h.place None (codes "warm") _ h.written (are.written ∙ ap (λ (ws : List Text). codes "warm" ∷ ws) numbers) h.named tt warm_utf8
    each.0
    (warm_taken h.place (plain_path h.place h.named) _ _ _ _ _ each.1)
stand words (Serve at spec) h =
    let are = h.are_command.1 in
    let fits = are.fits in
    let few_workers : spec.workers ≤ 1024 = fits.few_workers in
    let few_shards : spec.shards ≤ 64 = fits.few_shards in
    let few_members : spec.members ≤ 100000 = fits.few_members in
    let small : (n : ℕ) → n ≤ 100000 → n < 2 ^ 64 = λ n few. omega (arith, few) in
    let workers = small spec.workers (omega arith) in
    let shards = small spec.shards (omega arith) in
    let members = small spec.members (omega arith) in
    let address = fits.address in
    let plain =
    plain_five _ _ _ _ _ (plain_text spec.addr.items address.some address.no_hyphen) (conns_plain spec.conns fits.conns) (plain_decimal spec.workers workers)
    (plain_decimal spec.shards shards) (plain_decimal spec.members members) in
    let utf8 =
    all_five _ _ _ _ _ address.utf8 (conns_utf8 spec.conns fits.conns) (decimal_utf8 spec.workers workers)
    (decimal_utf8 spec.shards shards) (decimal_utf8 spec.members members) in
    stands words h.others h.place (path_in spec.warm) (codes "serve") _ h.written are.written h.named fits.warm serve_utf8 utf8
    (serve_taken h.place (plain_path h.place h.named) (path_in spec.warm) (plain_file (path_in spec.warm) fits.warm) _ _ _ _ _ plain)
stand words (Page text) h = absurd h.are_command

-- ---- what is read of them

-- what is said of words that are a command's is one that they are
own_words : (words : List Text) (command : Words) (h : AreWords words command) (said : Words) → AreSaid words said → AreWords words said
own_words words command h said is =
    let t = (stand words command h).taken.given in
    let path : warm_path command ≡ warm_path said = sym (is.given.path ∙ t.path_is) in
    record {
      place = h.place;
      named = h.named;
      others = h.others;
      are_command =
          subst (λ (place : Place). AreCommand h.others place said) t.place_is
          (subst (λ (line : List Text). AreCommand line _ said) t.line_is is.given.are_command);
      written = h.written ∙ ap (λ (warm : Option Text). with_options h.place warm h.others) path;
    }

-- and the command itself is said of them
own_said : (words : List Text) (command : Words) → AreWords words command → AreSaid words command
own_said words command h =
    let t = (stand words command h).taken in
    record {
      taken = t.taken;
      given = record {
        named = subst CanBeNamed (sym t.given.place_is) h.named;
        are_command =
            subst (λ (place : Place). AreCommand _ place command) (sym t.given.place_is)
            (subst (λ (line : List Text). AreCommand line h.place command) (sym t.given.line_is) h.are_command);
        path = sym t.given.path_is;
      };
    }

-- and no text is
no_text : (words : List Text) → fault_of program words ≡ [] → AskForText words → ⊥
no_text words none (inl help) = subst (IsAmong DisplayHelp) none help
no_text words none (inr version) = subst (IsAmong DisplayVersion) none version

pub accepted : (words : List Text) (r : Result Words WordsFault) → IfOk r (IsSaid words)
    → (r ≡ Err Usage → (command : Words) → AreSaid words command → ⊥) → (command : Words) → AreWords words command
    → MatchResult r (AreWords words) (λ (fault : WordsFault). fault ≡ Memory)
accepted words (Ok (Replay at)) said usage command h = own_words words command h (Replay at) said
accepted words (Ok (Work at spec)) said usage command h = own_words words command h (Work at spec) said
accepted words (Ok (Warm at spec)) said usage command h = own_words words command h (Warm at spec) said
accepted words (Ok (Serve at spec)) said usage command h = own_words words command h (Serve at spec) said
accepted words (Ok (Page text)) said usage command h = absurd (no_text words (stand words command h).taken.taken said)
accepted words (Err Memory) said usage command h = refl
accepted words (Err Usage) said usage command h = absurd (usage refl command (own_said words command h))

-- words that were not read as texts aren't a command's, unless memory ran out
pub unread : (words : List Text) (fault : WordsFault) → (fault ≡ Usage → All IsUtf8 words → ⊥) → (command : Words) → AreWords words command → fault ≡ Memory
unread words Memory none command h = refl
unread words Usage none command h = absurd (none refl (stand words command h).utf8)

-- what is said of words that are UTF-8 is read
pub read : (words : List Text) (r : Result Words WordsFault) → All IsUtf8 words → IfOk r (IsSaid words) → IfOk r (IsRead words)
read words (Ok command) utf8 said = (utf8, said)
read words (Err fault) utf8 said = tt
