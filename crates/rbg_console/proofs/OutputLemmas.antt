-- Lemmas on what is written.
use Rattle.std.proofs.Common.{◌≡◌, ◌∙◌, ℕ, ◌-◌, List, [], ◌++◌, Option, Some, None, length, take, drop, sym, ap, subst, append_assoc, append-nil, take-append-drop, unwrap_or}
use Rattle.std.proofs.lemmas.List.{take_rest}
use Rattle.std.proofs.Math.Seq.{take-append_seam}
use Rattle.std.specs.Io.KnownBytes.{Appends, Keeps}
use Rattle.std.proofs.KnownBytes.{Appends-kept}
use Rattle.rbg_console.specs.Outputs.{AppendsFront}

-- a part of the rest moves after what is done
pub moves_front : (all done rest : List ℕ) (n : ℕ) → all ≡ done ++ rest → all ≡ (done ++ take n rest) ++ take (length rest - n) (drop n rest)
moves_front all done rest n e =
    e ∙ ap (λ l. done ++ l) (sym (take-append-drop n rest)) ∙ sym (append_assoc done (take n rest) (drop n rest)) ∙ ap (λ l. (done ++ take n rest) ++ l) (sym (take_rest rest n))

-- what is done is a front part
pub front_done : (old new : Option (List ℕ)) (all done rest : List ℕ) → all ≡ done ++ rest → Appends old new done → AppendsFront old new all
front_done old new all done rest is appended = record {
  count = length done;
  part = subst (Appends old new) (sym (ap (take (length done)) is ∙ take-append_seam done rest)) appended;
}

-- and still so if nothing more is written
pub front_kept : (old mid new : Option (List ℕ)) (all done rest : List ℕ) → all ≡ done ++ rest → Appends old mid done → Keeps mid new → AppendsFront old new all
front_kept old mid new all done rest is appended kept = front_done old new all done rest is (Appends-kept old mid new done appended kept)

-- all of a text is a front part of it
pub front_whole : (old new : Option (List ℕ)) (all : List ℕ) → Appends old new all → AppendsFront old new all
front_whole old new all appended = front_done old new all all [] (sym (append-nil all)) appended

-- what is appended to an empty file is all that it holds
appended_to_empty : (old new : Option (List ℕ)) (bytes : List ℕ) → old ≡ Some [] → Appends old new bytes → new ≡ Some bytes
appended_to_empty None new bytes empty appended = absurd (let no : None ≡ Some [] = empty in cc)
appended_to_empty (Some xs) None bytes empty appended = absurd appended
appended_to_empty (Some xs) (Some ys) bytes empty appended =
    let none : xs ≡ [] = ap (λ known. unwrap_or known xs) empty in
    ap (λ l. Some l) (appended ∙ ap (λ l. l ++ bytes) none)

-- the file that was filled is known after it was closed
pub filled_file : (tells : Type 0) (old new after : Option (List ℕ)) (bytes : List ℕ) → (tells → old ≡ Some []) → Appends old new bytes → (tells → after ≡ new) → tells → after ≡ Some bytes
filled_file tells old new after bytes empty appended closed = λ known. closed known ∙ appended_to_empty old new bytes (empty known) appended
