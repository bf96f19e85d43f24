-- How far bytes were rewritten.
use Rattle.std.proofs.Common.{ℕ, ◌≡◌, ◌≤◌, List, [], ◌++◌, length, sym, ap, ◌∙◌, subst, append_assoc, append-nil, arith}
use Rattle.rbg_import.specs.declared.comments.Part.{Part}
use Rattle.rbg_import.specs.Comments.{AddsRewritten, Rewrites, nothing, more}
use Rattle.rbg_import.specs.Parts.{AddsPart, IsPart}

-- What the bytes up to an offset become is added to others.
pub record AddsTo (bytes : List ℕ) (at : ℕ) (old new : List ℕ) : Type 0 where
  pub within : at ≤ length bytes
  pub added : List ℕ
  pub is : new ≡ old ++ added
  pub rewrites : Rewrites bytes at added

pub adds_none : (bytes old : List ℕ) → AddsTo bytes 0 old old
adds_none bytes old = record {
  within = omega arith;
  added = [];
  is = sym (append-nil old);
  rewrites = nothing;
}

pub adds_more : (bytes : List ℕ) (at : ℕ) (p : Part) (old between new : List ℕ) → AddsTo bytes at old between →
    IsPart bytes at p → AddsPart bytes at p.end between new → AddsTo bytes p.end old new
adds_more bytes at p old between new so_far part adds = record {
  within = part.within;
  added = so_far.added ++ adds.part;
  is = adds.is ∙ ap (λ (xs : List ℕ). xs ++ adds.part) so_far.is ∙ append_assoc old so_far.added adds.part;
  rewrites = more p.end adds.part so_far.rewrites adds.becomes;
}

pub adds_all : (bytes : List ℕ) (at : ℕ) (old new : List ℕ) → AddsTo bytes at old new → length bytes ≤ at →
    AddsRewritten bytes old new
adds_all bytes at old new so_far all =
    let whole : at ≡ length bytes = omega (arith, all, so_far.within) in
    record {
      added = so_far.added;
      is = so_far.is;
      rewrites = subst (λ (n : ℕ). Rewrites bytes n so_far.added) whole so_far.rewrites;
    }
