-- What is promised of a mended tree: the index. Each statement stands whole in the file that its line names. Assumes nothing.
-- I. What comes out is well formed, whatever went in (`well`)
pub use Rattle.names_salvage.proofs.MendedTree.{well}
-- II. A well-formed tree within the limits comes out unchanged, with all numbers zero (`unchanged`), and only such a one (`only-unbroken`)
pub use Rattle.names_salvage.proofs.Unchanged.{unchanged, only_unbroken}
-- III. The numbers are true of the input: each entry read is kept or counted once (`adds-up`); the bytes cut and those of the entries read are the input (`bytes-all`,
-- `cut-and-read`); a double has a name that is among those kept before it (`double-is`); `moved` is 0 exactly if the entries kept come out as they stood (`not-moved`, `if-not-moved`)
pub use Rattle.names_salvage.proofs.MendedTree.{adds_up, bytes_all, cut_and_read}
pub use Rattle.names_salvage.proofs.TrueNumbers.{double_is, not_moved, if_not_moved}
