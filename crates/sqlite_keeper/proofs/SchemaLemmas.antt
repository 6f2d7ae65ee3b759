-- A schema's terms, read from their nodes.
use Rattle.std.proofs.Common.{◌≡◌, ◌<◌, ◌≤◌, ◌-◌, ℕ, suc, List, [], ◌∷◌, length, slice_index_or, sym, ap, subst, arith}
use Rattle.sqlite_sql.specs.Term.{Term}
use Rattle.sqlite_schema.specs.declared.code.Op.{Op}
use Rattle.sqlite_schema.specs.Code.{term_to, term_in, terms_in}

-- a term that is read the same from any depth past three is that of at least four nodes
deep : (nodes : List Op) (root : ℕ) (t : Term) → 4 ≤ length nodes → ((depth : ℕ) → term_to nodes (suc (suc (suc (suc depth)))) root ≡ t)
    → term_in nodes root ≡ t
deep nodes root t many h =
    let e : length nodes ≡ suc (suc (suc (suc (length nodes - 4)))) = omega (arith, many) in
    subst (λ (n : ℕ). term_to nodes n root ≡ t) (sym e) (h (length nodes - 4))

-- the one term of one root
pub lone_term : (nodes : List Op) (roots : List ℕ) (t : Term) → 1 ≤ length roots → length roots < 2 → 4 ≤ length nodes
    → ((depth : ℕ) → term_to nodes (suc (suc (suc (suc depth)))) (slice_index_or roots 0 0) ≡ t) → terms_in nodes roots ≡ t ∷ []
lone_term nodes [] t some one many h = absurd (omega (arith, some))
lone_term nodes (r ∷ []) t some one many h = ap (λ (x : Term). x ∷ []) (deep nodes r t many h)
lone_term nodes (r ∷ s ∷ rs) t some one many h = absurd (omega (arith, one))
