-- The examples, by computing.
use Rattle.std.proofs.Common.{refl}
use Rattle.rbg_position.specs.Examples.{GraphWithStones, RectangleWithStones}
use Rattle.rbg_position.specs.Sections.{space_between}

pub rectangle_with_stones : RectangleWithStones
unfolding space_between
rectangle_with_stones = λ game names. rw names refl

pub graph_with_stones : GraphWithStones
unfolding space_between
graph_with_stones = λ game names. rw names refl
