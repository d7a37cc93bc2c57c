-- The index of leaves has one number for each entry.
use Rattle.std.proofs.Common.{◌≡◌, ℕ, List, length, Option, Some, None, map, is_some, sym, ap, ◌∙◌, subst}
use Rattle.std.specs.Prelude.{nat_eq, MatchOption}
use Rattle.std.specs.List.{IsDistinct, list_any}
use Rattle.std.specs.Map.{lookup, keys_of}
use Rattle.std.proofs.lemmas.Cmp.{nat_eq_equiv}
use Rattle.std.proofs.lemmas.List.{length-map}
use Rattle.std.proofs.lemmas.Map.Made.{length-from_same_keys, is_some-lookup}
use Rattle.sp_node.specs.declared.node.Entry.{Entry}
use Rattle.sp_node.specs.Among.{Among}
use Rattle.sp_node.specs.Index.{has_number, leaf_with, IsIndex}
use Rattle.sp_node.specs.Standing.{HasNoEntry, IsLeafOf}
use Rattle.sp_node.specs.Table.{Table, IsValid, places_of, entries_of}
use Rattle.sp_node.proofs.Among.{among_flat_map}
use Rattle.sp_node.proofs.Entries.{has_from_among}
use Rattle.sp_node.proofs.Single.{own, index_is_first}
use Rattle.sp_node.proofs.Standing.{own_all, has_is_any, leaf_stands}

-- a number that has a leaf is that of an entry
leaf_told : (t : Table) → IsValid t → (q : ℕ) (o : Option ℕ) → MatchOption o (HasNoEntry t q) (IsLeafOf t q) → is_some o ≡ list_any (nat_eq q) (map (λ e. e.number) (entries_of t))
leaf_told t v q None h = sym h
leaf_told t v q (Some k) h =
    let among : Among h.entry (entries_of t) = subst (Among h.entry) (own_all t v) (among_flat_map own h.entry h.place (places_of t) h.among h.has) in
    sym (sym (has_is_any (entries_of t) q) ∙ ap (has_number (entries_of t)) (sym h.is) ∙ has_from_among h.entry (entries_of t) among)

-- pairs with distinct keys that tell of each entry number which leaf has it are as many as the entries
pub as_many_entries : (t : Table) (es : List (ℕ × ℕ)) → IsValid t → IsDistinct nat_eq (keys_of es) → IsIndex (λ q. lookup (nat_eq q) es) t.nodes → length es ≡ length (entries_of t)
as_many_entries t es v distinct index =
    sym (length-map es (λ (e : ℕ × ℕ). e.0))
    ∙ length-from_same_keys nat_eq_equiv (keys_of es) (map (λ e. e.number) (entries_of t)) distinct v.distinct_entries
    (λ q. sym (is_some-lookup (nat_eq q) es) ∙ ap is_some (index_is_first (λ q. lookup (nat_eq q) es) t v index q) ∙ leaf_told t v q (leaf_with t.nodes q) (leaf_stands t v q))
    ∙ length-map (entries_of t) (λ (e : Entry). e.number)
