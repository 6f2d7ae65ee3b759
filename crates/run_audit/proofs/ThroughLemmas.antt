-- The versions of each key, where those of one were written through a reference.
use Rattle.std.proofs.Common.{◌≡◌, ℕ, Bool, true, false, cond, List, [], ◌∷◌, ◌++◌, Some, option_map, refl, sym, ap, ◌∙◌}
use Rattle.std.specs.BTreeMap.{BTreeMap, UpdatesBy, WritesThrough, get, is_at}
use Rattle.std.specs.Global.{Vec}
use Rattle.rows_model.specs.declared.keys.QKey.{QKey}
use Rattle.rows_model.specs.Key.{same_key}
use Rattle.rows_model.proofs.SameKey.{same_key-true, same_key-swap}
use Rattle.lease_table.specs.Standing.{key_cmp}
use Rattle.lease_table.proofs.KeyLemmas.{is_at-key}
use Rattle.run_audit.specs.declared.answers.Version.{Version}
use Rattle.run_audit.specs.Answers.{noted, version, pushed}

pub noted-through : (key : QKey) (old new : BTreeMap QKey (Vec Version)) (there next : Vec Version) (from : ℕ) (value : QKey → List Version → List ℕ)
    → get key_cmp old key ≡ Some there → next.items ≡ there.items ++ version from (value key there.items) ∷ []
    → WritesThrough key_cmp (key_cmp key) old next new
    → (other : QKey) → noted other new ≡ cond (same_key other key) (pushed from (value other) (noted other old)) (noted other old)
noted-through key old new there next from value found more writes other = by (same_key other key) refl
  where
    updates : UpdatesBy key_cmp (key_cmp key) old new (Some next)
    updates = writes.3 (rw found refl)

    at : is_at (key_cmp key) other ≡ same_key other key
    at = is_at-key key other ∙ same_key-swap key other

    by : (b : Bool) → same_key other key ≡ b → noted other new ≡ cond b (pushed from (value other) (noted other old)) (noted other old)
    by true same =
        let one : other ≡ key = same_key-true other key same in
        let got : get key_cmp new other ≡ Some next = updates.0 other ∙ rw (at, same) refl in
        let was : noted other old ≡ Some there.items = ap (λ k. noted k old) one ∙ ap (option_map (λ (versions : Vec Version). versions.items)) found in
        let now : noted other new ≡ Some (there.items ++ version from (value key there.items) ∷ []) =
        ap (option_map (λ (versions : Vec Version). versions.items)) got ∙ ap (λ xs. Some xs) more in
        now ∙ ap (λ k. Some (there.items ++ version from (value k there.items) ∷ [])) (sym one) ∙ ap (pushed from (value other)) (sym was)
    by false apart =
        let got : get key_cmp new other ≡ get key_cmp old other = updates.0 other ∙ rw (at, apart) refl in
        ap (option_map (λ (versions : Vec Version). versions.items)) got
