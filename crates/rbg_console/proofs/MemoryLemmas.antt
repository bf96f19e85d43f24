-- Lemmas on files in memory.
use Rattle.std.proofs.Common.{◌≡◌, ◌≢◌, ◌∙◌, ℕ, List, Bool, true, false, ap, refl, sym, Global, Some, String, Vec, string_bytes, if◌then◌else◌, string_cmp, nat_cmp, bytes_eq}
use Rattle.std.specs.BTreeMap.{BTreeMap, UpdatesBy, get_by_text}
use Rattle.std.specs.Cmp.Lexicographic.{slice_cmp}
use Rattle.std.proofs.lemmas.Map.Text.{btree_map_updates_text}
use Rattle.std.proofs.lemmas.Slice.Eq.{bytes_eq-Decides}

-- a test of a fact that doesn't hold
no_more : (test : Bool) (P : Type 0) → (test ≡ true → P) → ¬ P → test ≡ false
no_more true P holds not = absurd (not (holds refl))
no_more false P holds not = refl

differ : (name other : List ℕ) → other ≢ name → bytes_eq name other ≡ false
differ name other apart = no_more (bytes_eq name other) (name ≡ other) (λ yes. (bytes_eq-Decides name other).0 yes) (λ same. apart (sym same))

-- a file that is put among others leaves them as they were
pub other_stays : (name other : List ℕ) (old new : BTreeMap (String Global) (Vec ℕ Global)) (bytes : Vec ℕ Global) → UpdatesBy string_cmp (λ k. slice_cmp nat_cmp name (string_bytes k)) old new (Some bytes) → other ≢ name → get_by_text new other ≡ get_by_text old other
other_stays name other old new bytes put apart =
    btree_map_updates_text name old new (Some bytes) put other ∙ ap (λ test. if test then Some bytes else get_by_text old other) (differ name other apart)
