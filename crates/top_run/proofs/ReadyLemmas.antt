-- What a load and a hub are made of.
use Rattle.std.proofs.Common.{ℕ, suc, ◌≡◌, ◌+◌, ◌≤◌, Bool, List, [], ◌∷◌, ◌++◌, Option, map, length, get_or, ap, arith, subst, sym, ◌∙◌}
use Rattle.std.proofs.lemmas.List.FromFn.{length-map-range_with_len}
use Rattle.rows_model.specs.Rows.{Tables}
use Rattle.key_shard.specs.declared.steps.Step.{Step}
use Rattle.key_shard.specs.Past.{Terms}
use Rattle.run_inputs.specs.Loads.{load, plan_at, sessions_of}
use Rattle.run_inputs.specs.declared.loads.WorkSpec.{WorkSpec}
use Rattle.session_client.specs.declared.plans.Shape.{Shape}
use Rattle.log_word.specs.Passes.{WordView, blind_pass, blind_shard_passes}
use Rattle.bound_hub.proofs.NewLemmas.{unused_is_new}
use Rattle.top_run.specs.declared.hubs.Parts.{Parts}
use Rattle.bound_desk.specs.Bound.{BoundDeskView}
use Rattle.top_run.specs.Ready.{AreParts, MakeHub, NamesParts, AreNewDesks}
use Rattle.top_run.specs.Works.{hub_terms}

-- one list for each worker
pub lists_of : (spec : WorkSpec) → length (load spec) ≡ spec.workers
unfolding load
lists_of spec = length-map-range_with_len (λ worker. map (plan_at spec) (sessions_of spec worker)) 0 spec.workers

-- the parts that are made for a shape of few shards make a hub
pub make_hub : (shape : Shape) (rolls : Bool) (terms : ℕ → Terms) (opening : Tables) (before : ℕ → List Step) (stopped : Bool)
    (name parts : ℕ) (word : WordView) (begun failed : ℕ) (made : Parts)
    → ((place : ℕ) → terms place ≡ hub_terms shape rolls place) → AreParts shape terms made → shape.shards ≤ 64
    → NamesParts name parts word before begun failed made.hub → MakeHub terms opening before stopped name parts word made.hub
make_hub shape rolls terms opening before stopped name parts word begun failed made are_terms are few names =
    let shards = made.hub.shards.items in
    record {
      all = are.shards;
      new = λ place default below.
          let shard = get_or shards place default in
          let first : shard.terms.first ≡ 1 = ap (λ (t : Terms). t.first) (are.shards.named place default below ∙ are_terms shard.terms.no) in
          unused_is_new opening before stopped shard (omega (arith, first)) (names.none_before shard.terms.no)
          (are.new place default below) (are.none_out place default below);
      few = subst (λ (n : ℕ). n ≤ 64) (sym are.as_many) few;
      is_named = names.ledger;
      one_each = are.one_each ∙ sym are.as_many;
      word_is = names.word_is;
      of_shards = ap (λ (w : WordView). w.shards) (sym names.word_is) ∙ are.word.of_shards ∙ sym are.as_many;
      store_pass = are.word.store_pass ∙ ap blind_pass names.word_is;
      shard_passes = are.word.shard_passes ∙ ap (λ (w : WordView). blind_shard_passes w shape.shards) names.word_is
          ∙ ap (λ (n : ℕ). blind_shard_passes word n) (sym are.as_many);
      caller = are.word.caller ∙ ap blind_pass names.word_is;
    }

-- new desks have one more behind them, with the next number
pub one_more_desk : (desks : List BoundDeskView) (new : BoundDeskView) (place : ℕ) → AreNewDesks place desks → new.worker ≡ place + length desks
    → new.calls ≡ [] → AreNewDesks place (desks ++ new ∷ [])
one_more_desk [] new place all next none = (omega (arith, next), none, tt)
one_more_desk (first ∷ rest) new place all next none =
    (all.0, all.1, one_more_desk rest new (suc place) all.2 (omega (arith, next)) none)
