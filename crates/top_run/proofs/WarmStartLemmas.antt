-- How a server's cache begins: shards that are filled beside a store, which is asked whether their rows are right.
use Rattle.std.proofs.Common.{ℕ, suc, ◌≡◌, ◌≤◌, ◌<◌, ◌+◌, List, [], ◌∷◌, ◌++◌, All, length, reverse, get_or, refl, sym, ap, subst, ◌∙◌, inl, inr, arith, length-append}
use Rattle.std.specs.Prelude.{Bool, false, ◌⊎◌, Option, Some, None, IsSome, is_none, slice_get, option_map, unwrap_or}
use Rattle.std.specs.List.{remove}
use Rattle.std.specs.Option.{ForSome}
use Rattle.std.proofs.lemmas.Bool.{false≢true}
use Rattle.std.proofs.lemmas.List.{append-nil, append_assoc}
use Rattle.std.proofs.lemmas.List.Elements.{All-get_or, All-weaker}
use Rattle.std.proofs.lemmas.Option.{slice_get-map, slice_get_within, get_or_from_slice_get}
use Rattle.rows_model.specs.declared.keys.QKey.{QKey}
use Rattle.rows_model.specs.Placement.{shard_of}
use Rattle.rows_model.specs.Query.{answer}
use Rattle.rows_model.specs.Rows.{Tables}
use Rattle.key_freshness.proofs.KnownLemmas.{stands-pushed, stands-within}
use Rattle.key_shard.specs.declared.steps.Step.{Step}
use Rattle.key_shard.specs.Past.{Terms}
use Rattle.key_shard.specs.Shards.{ShardView, past_of}
use Rattle.sql_keeper.specs.Sessions.{is_open}
use Rattle.core_history.specs.Machine.{log_cap}
use Rattle.sql_keeper.specs.declared.stores.Commit.{Commit}
use Rattle.sql_keeper.specs.Log.{rows_after}
use Rattle.sql_keeper.specs.Stores.{Ledger, StoreView, opened, rows_of}
use Rattle.bound_hub.specs.Facts.{IsFirst}
use Rattle.bound_hub.specs.Ties.{IsNewShard}
use Rattle.bound_hub.proofs.NewLemmas.{opened_is_new, unused_is_new}
use Rattle.log_word.specs.Passes.{WordView, blind_pass, blind_shard_passes}
use Rattle.shard_lock.specs.Names.{AreAll, IsNamed}
use Rattle.shard_dump.specs.declared.rows.Dump.{Dump}
use Rattle.shard_dump.specs.declared.rows.DumpRow.{DumpRow}
use Rattle.shard_dump.specs.Loads.{AreAnswers, HasAsked}
use Rattle.shard_dump.specs.Loads.{AreRight as AreRightOn}
use Rattle.cache_file.specs.Texts.{AreDumps, IsDumpOf}
use Rattle.run_words.specs.declared.words.ServeSpec.{ServeSpec}
use Rattle.top_run.specs.declared.hubs.Parts.{Parts}
use Rattle.top_run.specs.declared.serves.ColdCause.{ColdCause}
use Rattle.top_run.specs.declared.serves.Ready.{Ready}
use Rattle.top_run.specs.Begins.{AreFilledWith, StopsFilling}
use Rattle.top_run.specs.Ready.{AreParts, MakeHub}
use Rattle.top_run.specs.Serves.{serve_rolls, serve_shape}
use Rattle.top_run.specs.Warming.{AreToServe, AsksOn, CanLoad, IsAnew, IsEmptyFor, IsLoadedWith, IsServeReadyAnew, KeepsOn, NamesAnew, before_of}
use Rattle.top_run.specs.Works.{hub_terms}
use Rattle.top_run.proofs.BeginLemmas.{count_grows, filled_more, filled_none, stops_all}
use Rattle.top_run.proofs.WarmEnds.{all_alike}
use Rattle.top_run.proofs.WarmLemmas.{unused_legal}
use Rattle.top_run.proofs.WarmingLemmas.{loaded_is_new}

-- ---- a store that is asked, and beside which rows are loaded

pub asks_same : (store : StoreView) → AsksOn store store
asks_same store = record {
  opening_is = refl;
  log_is = refl;
  cap_is = refl;
  tells = λ some. some;
  never_falls = omega arith;
  none_open = λ closed. closed;
}

pub asks_both : (a b c : StoreView) → AsksOn a b → AsksOn b c → AsksOn a c
asks_both a b c first then = record {
  opening_is = then.opening_is ∙ first.opening_is;
  log_is = then.log_is ∙ first.log_is;
  cap_is = then.cap_is ∙ first.cap_is;
  tells = λ some. first.tells (then.tells some);
  never_falls = let one = first.never_falls in let other = then.never_falls in omega (arith, one, other);
  none_open = λ closed. then.none_open (first.none_open closed);
}

pub asks_of_asked : (old new : StoreView) → HasAsked old new → AsksOn old new
asks_of_asked old new asked = record {
  opening_is = asked.opening;
  log_is = asked.log;
  cap_is = asked.cap;
  tells = asked.tells;
  never_falls = asked.never_falls;
  none_open = λ closed who. ap (λ sessions. is_open who sessions) asked.sessions ∙ closed who;
}

pub asks_of_kept : (old new : StoreView) → KeepsOn old new → AsksOn old new
asks_of_kept old new keeps = record {
  opening_is = keeps.opening_is;
  log_is = keeps.log_is;
  cap_is = keeps.cap_is;
  tells = λ some. subst (λ (rows : Option Tables). IsSome rows) keeps.told_is some;
  never_falls = let same = keeps.faults_are in omega (arith, same);
  none_open = keeps.none_open;
}

-- ---- a shard that is filled

-- the rows of a dump can be loaded into a new shard of its place, where there is room and they are right
pub can_fill : (known_rows : Option Tables) (opening : Tables) (dump : Dump) (shard : ShardView) → IsEmptyFor dump shard → length dump.rows ≤ 4096
    → AreAnswers known_rows opening dump.rows → CanLoad known_rows opening dump.rows shard
can_fill known_rows opening dump shard empty few right =
    let room = empty.room_is in
    record {
      new = empty.new;
      none_out = empty.none_out;
      from_one = empty.from_one;
      lively = empty.lively;
      home = λ place default below.
          let key = (get_or dump.rows place default).key in
          ap (λ n. shard_of key n) (sym empty.count) ∙ (empty.right.rows.each place default below).at_home ∙ empty.number;
      differ = empty.right.rows.differ;
      room = omega (arith, few, room);
      few = omega (arith, room);
      answers = right;
    }

-- what was loaded beside a store was, beside what that is later
loaded_still : (known_rows later : Option Tables) (opening now : Tables) (rows : List DumpRow) (old new : ShardView) → now ≡ opening
    → (IsSome later → IsSome known_rows) → IsLoadedWith known_rows opening rows old new → IsLoadedWith later now rows old new
loaded_still known_rows later opening now rows old new same tells h = record {
  terms_are = h.terms_are;
  none_out = h.none_out;
  who = h.who;
  now = h.now;
  steps = h.steps;
  has = h.has;
  no_leases = h.no_leases;
  no_quars = h.no_quars;
  legal = h.legal;
  right = λ some. subst (λ (t : Tables). AreRightOn t (past_of new)) (sym same) (h.right (tells some));
  answers = λ some. subst (λ (t : Tables). All (λ (row : DumpRow). row.value ≡ answer row.key t) rows) (sym same) (h.answers (tells some));
}

-- ---- the shards of a server, of which some are filled

-- a new shard with the terms of its place
pub record IsEmptyAt (spec : ServeSpec) (place : ℕ) (shard : ShardView) : Type 0 where
  pub terms_are : shard.terms ≡ hub_terms (serve_shape spec) serve_rolls place
  pub new : shard.history ≡ []
  pub none_out : shard.out ≡ []

-- a filled one
pub record IsFilledAt (spec : ServeSpec) (known_rows : Option Tables) (opening : Tables) (place : ℕ) (shard : ShardView) : Type 0 where
  pub terms_are : shard.terms ≡ hub_terms (serve_shape spec) serve_rolls place
  pub old : ShardView
  pub rows : List DumpRow
  pub loaded : IsLoadedWith known_rows opening rows old shard

-- the first shards are filled with the first dumps, which have so many rows, and for each of the others there is the dump of its place
pub record AreFilling (spec : ServeSpec) (known_rows : Option Tables) (opening : Tables) (given : List Dump) (empty filled : List ShardView)
    (dumps : List Dump) (count : ℕ) : Type 0 where
  pub many : length filled + length empty ≡ spec.shards
  pub same : length dumps ≡ length empty
  pub front : List Dump
  pub parts : given ≡ front ++ dumps
  pub in_front : length front ≡ length filled
  pub filled_with : AreFilledWith front known_rows opening filled count
  pub done : (place : ℕ) (shard : ShardView) → slice_get filled place ≡ Some shard → IsFilledAt spec known_rows opening place shard
  pub left : (place : ℕ) (shard : ShardView) → slice_get empty place ≡ Some shard → IsEmptyAt spec (length filled + place) shard
  pub texts : (place : ℕ) (dump : Dump) → slice_get dumps place ≡ Some dump → IsDumpOf spec.shards (length filled + place) dump

at_place : (P : ShardView → Type 0) (shards : List ShardView) (place : ℕ) (shard : ShardView) → All P shards → slice_get shards place ≡ Some shard → P shard
at_place P shards place shard all is =
    subst P (get_or_from_slice_get shards place shard shard is) (All-get_or P shards place shard (slice_get_within shards place shard is) all)

-- none is at first
pub none_filled : (spec : ServeSpec) (known_rows : Option Tables) (opening : Tables) (empty filled : List ShardView) (dumps : List Dump)
    → filled ≡ [] → AreAll (hub_terms (serve_shape spec) serve_rolls) empty → length empty ≡ spec.shards → All (λ shard. shard.history ≡ []) empty
    → All (λ shard. shard.out ≡ []) empty → AreDumps spec.shards dumps → AreFilling spec known_rows opening dumps empty filled dumps 0
none_filled spec known_rows opening empty filled dumps none all many new none_out are =
    subst (λ (l : List ShardView). AreFilling spec known_rows opening dumps empty l dumps 0) (sym none) (record {
      many = let m = many in omega (arith, m);
      same = are.all ∙ sym many;
      front = [];
      parts = refl;
      in_front = refl;
      filled_with = filled_none known_rows opening;
      done = λ place shard at. absurd cc;
      left = λ place shard at.
          subst (λ n. IsEmptyAt spec n shard) (omega arith) (record {
            terms_are = at_place (IsNamed (hub_terms (serve_shape spec) serve_rolls)) empty place shard all.named at
                ∙ ap (hub_terms (serve_shape spec) serve_rolls) (all.placed place shard at);
            new = at_place (λ (s : ShardView). s.history ≡ []) empty place shard new at;
            none_out = at_place (λ (s : ShardView). s.out ≡ []) empty place shard none_out at;
          });
      texts = λ place dump at. subst (λ n. IsDumpOf spec.shards n dump) (omega arith) (are.in_order place dump at);
    })

-- the next is a new shard, and its dump is there
pub next_empty : (spec : ServeSpec) (known_rows : Option Tables) (opening : Tables) (given : List Dump) (empty filled : List ShardView) (dumps : List Dump) (count : ℕ)
    (shard : ShardView) (dump : Dump) → 0 < length empty → shard ≡ get_or empty 0 shard → dump ≡ get_or dumps 0 dump
    → AreFilling spec known_rows opening given empty filled dumps count → IsEmptyFor dump shard
next_empty spec known_rows opening given [] filled dumps count shard dump some first front was = absurd (omega (arith, some))
next_empty spec known_rows opening given (one ∷ later) filled [] count shard dump some first front was = let same = was.same in absurd (omega (arith, same))
next_empty spec known_rows opening given (one ∷ later) filled (text ∷ texts) count shard dump some first front was =
    let left = was.left 0 one refl in
    let is = was.texts 0 text refl in
    subst (λ (s : ShardView). IsEmptyFor dump s) (sym first) (subst (λ (d : Dump). IsEmptyFor d one) (sym front) (record {
      new = left.new;
      none_out = left.none_out;
      from_one = ap (λ (t : Terms). t.first) left.terms_are;
      lively = subst (λ (t : Terms). 1 ≤ t.life) (sym left.terms_are) (omega arith);
      room_is = ap (λ (t : Terms). t.room) left.terms_are;
      number = is.shard_is ∙ sym (ap (λ (t : Terms). t.no) left.terms_are);
      count = is.count_is ∙ sym (ap (λ (t : Terms). t.count) left.terms_are);
      right = record { right = is.right; rows = is.rows; written = refl };
    }))

-- where it isn't filled, not all are
pub one_stops : (spec : ServeSpec) (before after : StoreView) (given : List Dump) (empty filled : List ShardView) (dumps : List Dump) (count : ℕ) (dump : Dump)
    (cause : ColdCause) → 0 < length empty → dump ≡ get_or dumps 0 dump → AreFilling spec before.known_rows before.ledger.opening given empty filled dumps count
    → StopsFilling after (dump ∷ []) cause → StopsFilling after given cause
one_stops spec before after given empty filled [] count dump cause some first was stops = let same = was.same in absurd (omega (arith, same, some))
one_stops spec before after given empty filled (text ∷ texts) count dump cause some first was stops =
    stops_all after given was.front text texts cause was.parts (subst (λ (d : Dump). StopsFilling after (d ∷ []) cause) first stops)

-- once it is filled, there is one more
pub one_filled : (spec : ServeSpec) (before after : StoreView) (given : List Dump) (empty rest filled : List ShardView) (dumps others : List Dump) (count more sum : ℕ)
    (shard new : ShardView) (dump : Dump) → 0 < length empty → shard ≡ get_or empty 0 shard → rest ≡ remove empty 0 → dump ≡ get_or dumps 0 dump
    → others ≡ remove dumps 0 → AsksOn before after → IsLoadedWith after.known_rows after.ledger.opening dump.rows shard new → length dump.rows ≤ 4096
    → spec.shards ≤ 64 → sum ≡ count + length dump.rows → (sum ≤ 1000000 → more ≡ sum)
    → AreFilling spec before.known_rows before.ledger.opening given empty filled dumps count
    → AreFilling spec after.known_rows after.ledger.opening given rest (filled ++ new ∷ []) others more
one_filled spec before after given [] rest filled dumps others count more sum shard new dump some first left front behind asks now room few is grows was =
    absurd (omega (arith, some))
one_filled spec before after given (one ∷ later) rest filled [] others count more sum shard new dump some first left front behind asks now room few is grows was =
    let same = was.same in absurd (omega (arith, same))
one_filled spec before after given (one ∷ later) rest filled (text ∷ texts) others count more sum shard new dump some first left front behind asks now room few is grows was =
    let many = was.many in
    let same = was.same in
    let in_front = was.in_front in
    let longer = length-append filled (new ∷ []) in
    let longer_front = length-append was.front (text ∷ []) in
    let number : more ≡ count + length dump.rows =
    count_grows was.front dump filled before.known_rows before.ledger.opening count more sum was.filled_with (omega (arith, many, in_front, few)) room is grows in
    subst (λ (l : List ShardView). AreFilling spec after.known_rows after.ledger.opening given l (filled ++ new ∷ []) others more) (sym left)
    (subst (λ (l : List Dump). AreFilling spec after.known_rows after.ledger.opening given later (filled ++ new ∷ []) l more) (sym behind) (record {
      many = omega (arith, many, longer);
      same = omega (arith, same);
      front = was.front ++ text ∷ [];
      parts = was.parts ∙ sym (append_assoc was.front (text ∷ []) texts);
      in_front = omega (arith, in_front, longer, longer_front);
      filled_with =
          subst (λ (d : Dump). AreFilledWith (was.front ++ d ∷ []) after.known_rows after.ledger.opening (filled ++ new ∷ []) more) front
          (filled_more was.front dump filled new before.known_rows after.known_rows before.ledger.opening after.ledger.opening count more in_front
          asks.opening_is asks.tells number now.has room now.answers was.filled_with);
      done = λ place s at. by place s (stands-pushed filled new s place at);
      left = λ place s at. subst (λ n. IsEmptyAt spec n s) (omega (arith, longer)) (was.left (suc place) s at);
      texts = λ place d at. subst (λ n. IsDumpOf spec.shards n d) (omega (arith, longer)) (was.texts (suc place) d at);
    }))
  where
    by : (place : ℕ) (s : ShardView) → (slice_get filled place ≡ Some s) ⊎ ((place ≡ length filled) × (new ≡ s))
        → IsFilledAt spec after.known_rows after.ledger.opening place s
    by place s (inl there) =
        let h = was.done place s there in
        record {
          terms_are = h.terms_are;
          old = h.old;
          rows = h.rows;
          loaded = loaded_still before.known_rows after.known_rows before.ledger.opening after.ledger.opening h.rows h.old s asks.opening_is asks.tells h.loaded;
        }
    by place s (inr here) =
        let terms : new.terms ≡ hub_terms (serve_shape spec) serve_rolls (length filled) =
        now.terms_are ∙ ap (λ (x : ShardView). x.terms) first ∙ (was.left 0 one refl).terms_are
        ∙ ap (hub_terms (serve_shape spec) serve_rolls) (omega arith) in
        subst (λ n. IsFilledAt spec after.known_rows after.ledger.opening n s) (sym here.0)
        (subst (λ (x : ShardView). IsFilledAt spec after.known_rows after.ledger.opening (length filled) x) here.1
        (record { terms_are = terms; old = shard; rows = dump.rows; loaded = now }))

-- where none is left, all of them are filled
pub filled_with_all : (spec : ServeSpec) (known_rows : Option Tables) (opening : Tables) (given : List Dump) (empty filled : List ShardView) (dumps : List Dump) (count : ℕ)
    → length empty ≡ 0 → AreFilling spec known_rows opening given empty filled dumps count → AreFilledWith given known_rows opening filled count
filled_with_all spec known_rows opening given empty filled [] count none are =
    subst (λ (l : List Dump). AreFilledWith l known_rows opening filled count) (sym (are.parts ∙ append-nil are.front)) are.filled_with
filled_with_all spec known_rows opening given empty filled (text ∷ texts) count none are = let same = are.same in absurd (omega (arith, same, none))

-- ---- shards that can be served

-- the steps that a shard in its place has made are those before
named_past : (before : ℕ → List Step) (shards : List ShardView) → ((place : ℕ) → before place ≡ before_of shards place) → (place : ℕ) (shard : ShardView)
    → slice_get shards place ≡ Some shard → shard.terms.no ≡ place → past_of shard ≡ before shard.terms.no
named_past before shards are place shard here number =
    sym (ap (λ (o : Option (List Step)). unwrap_or o []) (slice_get-map past_of shards place ∙ ap (λ (o : Option ShardView). option_map past_of o) here))
    ∙ sym (are place) ∙ ap before (sym number)

at_get : (shards : List ShardView) (place : ℕ) (default : ShardView) → place < length shards → slice_get shards place ≡ Some (get_or shards place default)
at_get shards place default below =
    let there = stands-within shards place below in
    there.1 ∙ ap (λ (s : ShardView). Some s) (sym (get_or_from_slice_get shards place there.0 default there.1))

-- where all are filled they can
pub all_filled : (spec : ServeSpec) (known_rows : Option Tables) (opening : Tables) (given : List Dump) (empty filled : List ShardView) (dumps : List Dump) (count : ℕ)
    → length empty ≡ 0 → 1 ≤ spec.shards → AreFilling spec known_rows opening given empty filled dumps count
    → AreToServe (hub_terms (serve_shape spec) serve_rolls) known_rows opening filled
all_filled spec known_rows opening given empty filled dumps count none some are =
    let many = are.many in
    let terms : ℕ → Terms = hub_terms (serve_shape spec) serve_rolls in
    record {
      all = record {
        some = omega (arith, some, many, none);
        named = λ place default below.
            let h = are.done place (get_or filled place default) (at_get filled place default below) in
            h.terms_are ∙ ap terms (sym (ap (λ (t : Terms). t.no) h.terms_are));
        counted = λ place default below.
            ap (λ (t : Terms). t.count) (are.done place (get_or filled place default) (at_get filled place default below)).terms_are
            ∙ omega (arith, many, none);
        placed = λ place shard at. ap (λ (t : Terms). t.no) (are.done place shard at).terms_are;
      };
      legal = λ place default below. (are.done place (get_or filled place default) (at_get filled place default below)).loaded.legal;
      new = λ before named place default below.
          let new = get_or filled place default in
          let here = at_get filled place default below in
          let h = are.done place new here in
          let first : new.terms.first ≡ 1 = ap (λ (t : Terms). t.first) h.terms_are in
          loaded_is_new known_rows opening h.rows before h.old new h.loaded (omega (arith, first))
          (named_past before filled named place new here (ap (λ (t : Terms). t.no) h.terms_are));
    }

-- new ones can
none_before : (shards : List ShardView) → All (λ shard. shard.history ≡ []) shards → (place : ℕ) → before_of shards place ≡ []
none_before shards new place = by (slice_get shards place) refl
  where
    by : (o : Option ShardView) → slice_get shards place ≡ o → before_of shards place ≡ []
    by None none = ap (λ (o : Option (List Step)). unwrap_or o []) (slice_get-map past_of shards place ∙ ap (λ (o : Option ShardView). option_map past_of o) none)
    by (Some shard) here =
        ap (λ (o : Option (List Step)). unwrap_or o []) (slice_get-map past_of shards place ∙ ap (λ (o : Option ShardView). option_map past_of o) here)
        ∙ ap (λ (steps : List Step). reverse steps) (at_place (λ (s : ShardView). s.history ≡ []) shards place shard new here)

pub new_to_serve : (spec : ServeSpec) (known_rows : Option Tables) (opening : Tables) (parts : Parts)
    → AreParts (serve_shape spec) (hub_terms (serve_shape spec) serve_rolls) parts
    → AreToServe (hub_terms (serve_shape spec) serve_rolls) known_rows opening parts.hub.shards.items
new_to_serve spec known_rows opening parts are =
    let shards = parts.hub.shards.items in
    record {
      all = are.shards;
      legal = unused_legal shards are.new;
      new = λ before named place default below.
          let shard = get_or shards place default in
          let first : shard.terms.first ≡ 1 = ap (λ (t : Terms). t.first) (are.shards.named place default below) in
          unused_is_new opening before (is_none known_rows) shard (omega (arith, first))
          (named shard.terms.no ∙ none_before shards are.new shard.terms.no) (are.new place default below) (are.none_out place default below);
    }

-- and those that can can later
stopped_still : (old new : Option Tables) → (IsSome new → IsSome old) → is_none new ≡ false → is_none old ≡ false
stopped_still (Some rows) new tells told = refl
stopped_still None None tells told = told
stopped_still None (Some rows) tells told = absurd (false≢true (tells refl))

first_still : (opening now : Tables) (old new : Bool) (key : QKey) (found : Option (List ℕ × ℕ)) → now ≡ opening → (new ≡ false → old ≡ false)
    → IsFirst opening old key found → IsFirst now new key found
first_still opening now old new key None same tells h = tt
first_still opening now old new key (Some found) same tells h = (h.0, λ told. h.1 (tells told) ∙ ap (answer key) (sym same))

pub to_serve_still : (terms : ℕ → Terms) (before after : StoreView) (shards : List ShardView) → AsksOn before after
    → AreToServe terms before.known_rows before.ledger.opening shards → AreToServe terms after.known_rows after.ledger.opening shards
to_serve_still terms before after shards asks h = record {
  all = h.all;
  legal = h.legal;
  new = λ steps named.
      All-weaker (IsNewShard before.ledger.opening steps (is_none before.known_rows)) (IsNewShard after.ledger.opening steps (is_none after.known_rows))
      (λ shard new. record {
        from_one = new.from_one;
        past_is = new.past_is;
        quiet = new.quiet;
        entries = λ key.
            first_still before.ledger.opening after.ledger.opening (is_none before.known_rows) (is_none after.known_rows) key _ asks.opening_is
            (stopped_still before.known_rows after.known_rows asks.tells) (new.entries key);
        drawn = new.drawn;
      }) shards (h.new steps named);
}

-- ---- the hub of a server

pub make_serving : (spec : ServeSpec) (store : StoreView) (ready : Ready) (count start : Option ℕ) (terms : ℕ → Terms) (named_opening : Tables) (cap : ℕ)
    (named_rows : Option Tables) (name parts : ℕ) (word : WordView) (before : ℕ → List Step) (begun failed : ℕ) → spec.shards ≤ 64
    → IsServeReadyAnew spec store.known_rows store.ledger.opening ready
    → NamesAnew (serve_shape spec) serve_rolls store count start terms named_opening cap named_rows name parts word before begun failed ready.parts.hub
    → MakeHub terms named_opening before (is_none store.known_rows) name parts word ready.parts.hub
make_serving spec store ready count start terms named_opening cap named_rows name parts word before begun failed few is_ready names =
    let shards = ready.parts.hub.shards.items in
    let many = is_ready.as_many in
    record {
      all = all_alike (hub_terms (serve_shape spec) serve_rolls) terms shards (λ place. sym (names.terms_are place)) is_ready.shards.all;
      new = subst (λ (t : Tables). All (IsNewShard t before (is_none store.known_rows)) shards) names.opening_is
          (is_ready.shards.new before names.before_is);
      few = omega (arith, many, few);
      is_named = names.ledger;
      one_each = is_ready.one_each ∙ sym many;
      word_is = names.word_is;
      of_shards = ap (λ (w : WordView). w.shards) (sym names.word_is) ∙ is_ready.word.of_shards ∙ sym many;
      store_pass = is_ready.word.store_pass ∙ ap blind_pass names.word_is;
      shard_passes = is_ready.word.shard_passes ∙ ap (λ (w : WordView). blind_shard_passes w spec.shards) names.word_is
          ∙ ap (λ (n : ℕ). blind_shard_passes word n) (sym many);
      caller = is_ready.word.caller ∙ ap blind_pass names.word_is;
    }

-- ---- the store of a server, once its cache has begun

pub begun_anew : (most : ℕ) (given store : StoreView) → given.ledger ≡ opened given.ledger.opening most → AsksOn given store
    → ForSome store.known_rows (λ known. known ≡ rows_of store.ledger) → IsAnew most store
begun_anew most given store new asks told =
    let no_log : store.ledger.log ≡ [] = asks.log_is ∙ ap (λ (l : Ledger). l.log) new in
    record {
      no_log = no_log;
      cap_is = asks.cap_is ∙ ap (λ (l : Ledger). l.cap) new;
      none_open = asks.none_open (opened_is_new given 0 0 most new refl refl).closed;
      told_is = subst (λ (log : List Commit). ForSome store.known_rows (λ known. known ≡ rows_after store.ledger.opening log)) no_log told;
    }
