-- All parts but a comment between marks stay as they are.
use Rattle.std.proofs.Common.{subst}
use Rattle.rbg_import.specs.declared.comments.PartKind.{PartKind}
use Rattle.rbg_import.specs.Comments.{IsLine, IsOpen, IsPlain, line, open_block, plain}
use Rattle.rbg_import.specs.Parts.{IsKind}
use Rattle.rbg_import.proofs.Adding.{adds_kept}
use Rattle.rbg_import.proofs.comments.push_part.Goals as goal

pub returns-in-Plain : goal.returns-in-Plain
returns-in-Plain c =
    let is : IsPlain c.args.bytes.now c.args.at c.args.part.end =
    subst (λ (k : PartKind). IsKind k c.args.bytes.now c.args.at c.args.part.end) c.in-Plain.is c.requires.is in
    adds_kept _ _ _ _ _ _ c.extend_from_slice.ensures.items (plain is)

pub returns-in-Line : goal.returns-in-Line
returns-in-Line c =
    let is : IsLine c.args.bytes.now c.args.at c.args.part.end =
    subst (λ (k : PartKind). IsKind k c.args.bytes.now c.args.at c.args.part.end) c.in-Line.is c.requires.is in
    adds_kept _ _ _ _ _ _ c.extend_from_slice-in-Line.ensures.items (line is)

pub returns-in-Open : goal.returns-in-Open
returns-in-Open c =
    let is : IsOpen c.args.bytes.now c.args.at c.args.part.end =
    subst (λ (k : PartKind). IsKind k c.args.bytes.now c.args.at c.args.part.end) c.in-Open.is c.requires.is in
    adds_kept _ _ _ _ _ _ c.extend_from_slice-in-Open.ensures.items (open_block is)
