-- Counts, and a cache, within the limits, as numbers: a test that all four are kept says it of each. Assumes nothing.
use Prim.Native.Nat.{◌≤◌}
use mathlib.Core.Path.{◌≡◌, ◌∙◌}
use mathlib.Core.List.{[], map}
use mathlib.Core.Bool.{Bool, true, ◌&&◌}
use mathlib.Core.Option.{none}
use lib.ListN.{length}
use lib.Dec.{leb}
use borrow.Author.Tests.{leb-true}
use Rattle.model.specs.Map.{find, rising, is_some}
use Rattle.model.specs.Tree.{distinct}
use Rattle.model.specs.Editor.{Format, at, Cache, entry_count, name_count, path_count, fits}
use Rattle.model.specs.Valid.{all_good, every_tree, root_held, write_good, valid}
use Rattle.model.specs.Measure.{Counts, counts_of, within}
use Rattle.model.proofs.Basics.{and_left, and_right}
use Rattle.model.proofs.MeasureRight.{within_fits}

pub record Roomy (u : Counts) : Type 0 where
  pub trees : u.trees ≤ 64
  pub entries : u.entries ≤ 1024
  pub names : u.names ≤ 16384
  pub paths : u.paths ≤ 8192

pub roomy : (u : Counts) → within u ≡ true → Roomy u
unfolding within
roomy u e =
    record {
      trees = leb-true u.trees 64 (and_left A B (and_left (A && B) C (and_left (A && B && C) D e)));
      entries = leb-true u.entries 1024 (and_right A B (and_left (A && B) C (and_left (A && B && C) D e)));
      names = leb-true u.names 16384 (and_right (A && B) C (and_left (A && B && C) D e));
      paths = leb-true u.paths 8192 (and_right (A && B && C) D e);
    }
  where
    A : Bool
    A = leb u.trees 64

    B : Bool
    B = leb u.entries 1024

    C : Bool
    C = leb u.names 16384

    D : Bool
    D = leb u.paths 8192

pub record Limits (c : Cache) : Type 0 where
  pub trees : length c ≤ 64
  pub entries : entry_count c ≤ 1024
  pub names : name_count c ≤ 16384
  pub paths : path_count c ≤ 8192

pub limits : (c : Cache) → fits c ≡ true → Limits c
unfolding counts_of
limits c e =
    let r : Roomy (counts_of c) = roomy (counts_of c) (within_fits c ∙ e) in
    record { trees = r.trees; entries = r.entries; names = r.names; paths = r.paths }

-- a valid editor keeps the limits
pub fits_of : (F : Format) (c : Cache) → valid F (record { cached = c; writing = none }) ≡ true → fits c ≡ true
unfolding valid every_tree root_held write_good
fits_of F c e =
    let B : Bool = rising at c && distinct (map at c) && all_good F.width c in
    and_right B (fits c) (and_left (B && fits c) (is_some (find at [] c)) (and_left (B && fits c && is_some (find at [] c)) true e))
