-- That a row of a table has a word, and that none has, by its rows one after another.
use Rattle.std.proofs.Common.{ℕ, ◌<◌, ◌≡◌, false, List, length, map, slice_index_or, arith, ap, sym, ◌∙◌}
use Rattle.std.proofs.lemmas.List.{get_or-map, length-map}
use Rattle.mc_text.specs.declared.verb_words.LeaseVerb.TheVariants as lease
use Rattle.mc_text.specs.declared.verb_words.Verb.{Verb}
use Rattle.mc_text.specs.declared.verb_words.Verb.TheVariants.{Lease}
use Rattle.mc_text.specs.declared.verbs.Row.{Row}
use Rattle.mc_text.specs.Verbs.{TableRow, text_of, row_of, IsRowOf, IsNoVerb}
use Rattle.mc_text.proofs.VerbLemmas.{verb_once}

-- some row, for places behind the last
abbrev some_row : Row
some_row = record { which = Lease lease.Begin; fields = 0; block = false; number = 0 }

-- no table has a row with a word that is no verb
pub no_word : (table : List TableRow) (word : List ℕ) → ((verb : Verb) → word ≡ text_of verb → ⊥) → IsNoVerb table word
no_word table word none row h = none row.which (sym h.verb_is)

-- a table has no row with the word of a verb that none of its rows has
pub no_verb : (rows : List Row) (word : List ℕ) (verb : Verb) → word ≡ text_of verb
    → ((i : ℕ) (d : Row) → i < length rows → (slice_index_or rows i d).which ≡ verb → ⊥) → IsNoVerb (map row_of rows) word
no_verb rows word verb w none row h =
    let (k, within, at) = h.listed in
    let inside : k < length rows = omega (arith, length-map rows row_of) in
    let kept = get_or-map row_of rows k some_row row inside in
    none k some_row inside (ap (λ (r : TableRow). r.which) (sym kept ∙ at) ∙ verb_once row.which verb (h.verb_is ∙ w))

-- the row at a place stands in the table
pub row_found : (rows : List Row) (i : ℕ) (word text : List ℕ) (verb : Verb) → i < length rows
    → (slice_index_or rows i some_row).which ≡ verb → text ≡ text_of verb → word ≡ text_of verb
    → IsRowOf (map row_of rows) word (record {
      which = verb;
      word = text;
      fields = (slice_index_or rows i some_row).fields;
      block = (slice_index_or rows i some_row).block;
      number = (slice_index_or rows i some_row).number;
    })
row_found rows i word text verb below same t w =
    rw (t, ← same) (record {
      listed = (i, omega (arith, length-map rows row_of), get_or-map row_of rows i some_row (row_of (slice_index_or rows i some_row)) below);
      word_is = ap text_of same ∙ sym w;
      verb_is = ap text_of same ∙ sym w;
    })
