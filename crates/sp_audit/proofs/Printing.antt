-- Values of records are text, and rows grow at their end.
use Rattle.std.proofs.Common.{◌≡◌, ℕ, ◌<◌, ◌≤◌, zero, suc, true, List, [], ◌∷◌, ◌++◌, get_or, leb, arith}
use Rattle.std.specs.List.{list_all}
use Rattle.std.specs.Str.{IsUtf8}
use Rattle.std.proofs.lemmas.Bool.{and_parts, leb-true}
use Rattle.std.proofs.lemmas.List.{append_assoc}
use Rattle.std.proofs.lemmas.Str.{IsUtf8-from_ascii}
use Rattle.sp_rect.specs.Value.{is_printing, is_value}
use Rattle.serde_json.specs.Data.{Data}

printing_ascii : (bs : List ℕ) → list_all is_printing bs ≡ true → (i : ℕ) → get_or bs i 0 < 128
printing_ascii [] h i = omega arith
printing_ascii (b ∷ bs) h zero =
    let both : is_printing b ≡ true = (and_parts (is_printing b) (list_all is_printing bs) h).0 in
    let high : b ≤ 126 = leb-true b 126 (and_parts (leb 33 b) (leb b 126) both).1 in
    omega arith
printing_ascii (b ∷ bs) h (suc i) = printing_ascii bs (and_parts _ _ h).1 i

pub value_is_text : (bs : List ℕ) → is_value bs ≡ true → IsUtf8 bs
unfolding is_value
value_is_text bs h = IsUtf8-from_ascii bs (printing_ascii bs (and_parts _ _ (and_parts _ _ h).1).1)

-- four more members
pub four_more : (s t u v w : List Data) (a b c d : Data) → t ≡ s ++ a ∷ [] → u ≡ t ++ b ∷ [] → v ≡ u ++ c ∷ [] → w ≡ v ++ d ∷ [] → w ≡ s ++ a ∷ b ∷ c ∷ d ∷ []
four_more s t u v w a b c d h k l m = rw (m, l, k, h) (simp append_assoc)
