-- The hub of a second load: loaded shards beside a store that was made anew.
use Rattle.std.proofs.Common.{Bool, ℕ, ◌≡◌, ◌<◌, List, [], ◌++◌, All, length, reverse, get_or, refl, sym, ap, subst, ◌∙◌, arith}
use Rattle.std.specs.Prelude.{Option, Some, None, is_none, slice_get, option_map, unwrap_or}
use Rattle.std.specs.List.{AllByRecursion}
use Rattle.std.proofs.lemmas.List.{reverse-append, reverse-reverse}
use Rattle.std.proofs.lemmas.List.Elements.{All-get_or}
use Rattle.std.proofs.lemmas.Option.{slice_get-map, slice_get_within, get_or_from_slice_get}
use Rattle.rows_model.specs.Rows.{Tables}
use Rattle.key_shard.specs.declared.steps.Step.{Step}
use Rattle.key_shard.specs.Past.{Terms}
use Rattle.key_shard.specs.Shards.{ShardView, past_of}
use Rattle.key_freshness.proofs.KnownLemmas.{stands-within}
use Rattle.sql_keeper.specs.Stores.{StoreView}
use Rattle.log_word.specs.Passes.{WordView}
use Rattle.shard_lock.specs.Names.{AreAll, AreLegal, IsNamed}
use Rattle.bound_hub.specs.Ties.{IsNewShard, IsNewStore}
use Rattle.shard_dump.specs.declared.rows.DumpRow.{DumpRow}
use Rattle.shard_dump.specs.Loads.{loaded_steps}
use Rattle.session_client.specs.declared.plans.Shape.{Shape}
use Rattle.top_run.specs.declared.hubs.HubParts.{HubParts}
use Rattle.top_run.specs.declared.dumps.Dumped.{Dumped}
use Rattle.top_run.specs.Warms.{BeginsLoaded}
use Rattle.top_run.specs.Warming.{AreLoaded, GoesOn, IsAnew, IsLoadedWith, LoadsOnly, NamesAnew, before_of}
use Rattle.top_run.proofs.WarmingLemmas.{loaded_is_new, loaded_only}

-- a store that was made anew is as it is named
pub new_store : (shape : Shape) (rolls : Bool) (store : StoreView) (count start : Option ℕ) (terms : ℕ → Terms) (opening : Tables) (cap : ℕ) (known_rows : Option Tables)
    (name parts : ℕ) (word : WordView) (before : ℕ → List Step) (begun failed most : ℕ) (made : HubParts) → IsAnew most store
    → NamesAnew shape rolls store count start terms opening cap known_rows name parts word before begun failed made → IsNewStore begun failed store
new_store shape rolls store count start terms opening cap known_rows name parts word before begun failed most made anew names = record {
  none = anew.no_log;
  begun_is = sym names.begun_is;
  closed = anew.none_open;
  failed_is = sym names.failed_is;
  few = names.few_failed;
}

at_place : (P : ShardView → Type 0) (shards : List ShardView) (place : ℕ) (shard : ShardView) → All P shards → slice_get shards place ≡ Some shard → P shard
at_place P shards place shard all is =
    subst P (get_or_from_slice_get shards place shard shard is) (All-get_or P shards place shard (slice_get_within shards place shard is) all)

module _ (known_rows : Option Tables) (opening : Tables) (dumps : List Dumped) (olds news : List ShardView) (loaded : AreLoaded known_rows opening dumps olds news)
    (many : length dumps ≡ length olds) where
  -- what was loaded at a place
  pub record IsAt (place : ℕ) (new : ShardView) : Type 0 where
    pub old : ShardView
    pub dumped : Dumped
    pub there : slice_get olds place ≡ Some old
    pub here : slice_get dumps place ≡ Some dumped
    pub is : IsLoadedWith known_rows opening dumped.dump.rows old new

  pub at : (place : ℕ) (new : ShardView) → slice_get news place ≡ Some new → IsAt place new
  at place new here =
      let below = slice_get_within news place new here in
      let same = loaded.as_many in
      let old = stands-within olds place (omega (arith, below, same)) in
      let dumped = stands-within dumps place (omega (arith, below, same, many)) in
      record { old = old.0; dumped = dumped.0; there = old.1; here = dumped.1; is = loaded.each place old.0 new dumped.0 old.1 here dumped.1 }

  module _ (terms : ℕ → Terms) (all : AreAll terms olds) where
    -- the loaded shards are those that were named
    terms_at : (place : ℕ) (new : ShardView) (here : slice_get news place ≡ Some new) → new.terms ≡ terms place
    terms_at place new here =
        let one = at place new here in
        one.is.terms_are ∙ at_place (IsNamed terms) olds place one.old all.named one.there ∙ ap terms (all.placed place one.old one.there)

    number_at : (place : ℕ) (new : ShardView) (here : slice_get news place ≡ Some new) → new.terms.no ≡ place
    number_at place new here =
        let one = at place new here in
        ap (λ (t : Terms). t.no) one.is.terms_are ∙ all.placed place one.old one.there

    count_at : (place : ℕ) (new : ShardView) (here : slice_get news place ≡ Some new) → new.terms.count ≡ length news
    count_at place new here =
        let one = at place new here in
        ap (λ (t : Terms). t.count) one.is.terms_are ∙ at_place (λ (s : ShardView). s.terms.count ≡ length olds) olds place one.old all.counted one.there
        ∙ sym loaded.as_many

    at_get : (place : ℕ) (default : ShardView) → place < length news → slice_get news place ≡ Some (get_or news place default)
    at_get place default below =
        let there = stands-within news place below in
        there.1 ∙ ap (λ (s : ShardView). Some s) (sym (get_or_from_slice_get news place there.0 default there.1))

    pub all_loaded : AreAll terms news
    all_loaded = record {
      some = let some = all.some in let same = loaded.as_many in omega (arith, some, same);
      named = λ place default below.
          let here = at_get place default below in
          terms_at place (get_or news place default) here ∙ ap terms (sym (number_at place (get_or news place default) here));
      counted = λ place default below. count_at place (get_or news place default) (at_get place default below);
      placed = λ place shard here. number_at place shard here;
    }

    -- and each is as it is named, by the steps that it has made
    pub new_loaded : (before : ℕ → List Step) → ((place : ℕ) → before place ≡ before_of news place) → ((place : ℕ) → (terms place).first ≡ 1)
        → All (IsNewShard opening before (is_none known_rows)) news
    new_loaded before are from_one = λ place default below.
        let new = get_or news place default in
        let here = at_get place default below in
        let one = at place new here in
        let number = number_at place new here in
        let past : past_of new ≡ before new.terms.no =
        sym (ap (λ (o : Option (List Step)). unwrap_or o []) (slice_get-map past_of news place ∙ ap (λ (o : Option ShardView). option_map past_of o) here))
        ∙ sym (are place) ∙ ap before (sym number) in
        let first : new.terms.first ≡ 1 = ap (λ (t : Terms). t.first) (terms_at place new here) ∙ from_one place in
        loaded_is_new known_rows opening one.dumped.dump.rows before one.old new one.is (omega (arith, first)) past

    -- the steps before are those by which rows were loaded
    pub loads_named : (before : ℕ → List Step) → ((place : ℕ) → before place ≡ before_of news place) → (place : ℕ) → AllByRecursion LoadsOnly (before place)
    loads_named before are place = subst (AllByRecursion LoadsOnly) (sym (are place)) (by (slice_get news place) refl)
      where
        by : (o : Option ShardView) → slice_get news place ≡ o → AllByRecursion LoadsOnly (before_of news place)
        by None none =
            subst (λ (o : Option (List Step)). AllByRecursion LoadsOnly (unwrap_or o [])) (sym (slice_get-map past_of news place ∙ ap (λ (o : Option ShardView). option_map past_of o) none)) tt
        by (Some new) here =
            let one = at place new here in
            subst (λ (o : Option (List Step)). AllByRecursion LoadsOnly (unwrap_or o []))
            (sym (slice_get-map past_of news place ∙ ap (λ (o : Option ShardView). option_map past_of o) here))
            (loaded_only known_rows opening one.dumped.dump.rows one.old new one.is)

    -- a history that goes on from the steps of a loaded shard begins with them
    pub begins_at : (before : ℕ → List Step) → ((place : ℕ) → before place ≡ before_of news place) → (place : ℕ) (new left : ShardView) (rows : List DumpRow)
        → slice_get news place ≡ Some new → left.terms.no ≡ place → GoesOn before left → (at : IsAt place new) → at.dumped.dump.rows ≡ rows
        → BeginsLoaded (terms place) rows left.history
    begins_at before are place new left rows here number goes one same =
        let past : before left.terms.no ≡ past_of new =
        ap before number ∙ are place
        ∙ ap (λ (o : Option (List Step)). unwrap_or o []) (slice_get-map past_of news place ∙ ap (λ (o : Option ShardView). option_map past_of o) here) in
        let whole : left.history ≡ new.history ++ reverse goes.more =
        sym (reverse-reverse left.history) ∙ ap (λ (l : List Step). reverse l) (goes.goes_on ∙ ap (λ (l : List Step). goes.more ++ l) past)
        ∙ reverse-append goes.more (past_of new) ∙ ap (λ (l : List Step). l ++ reverse goes.more) (reverse-reverse new.history) in
        let steps : new.history ≡ loaded_steps (terms place) one.is.who one.is.now (terms place).first rows =
        one.is.steps ∙ ap (λ (t : Terms). loaded_steps t one.is.who one.is.now t.first one.dumped.dump.rows) (terms_at place new here)
        ∙ ap (λ (rs : List DumpRow). loaded_steps (terms place) one.is.who one.is.now (terms place).first rs) same in
        record {
          who = one.is.who;
          now = one.is.now;
          more = reverse goes.more;
          begins = whole ∙ ap (λ (l : List Step). l ++ reverse goes.more) steps;
        }

    -- their histories are legal
    pub legal_loaded : AreLegal news
    legal_loaded = λ place default below. (at place (get_or news place default) (at_get place default below)).is.legal
