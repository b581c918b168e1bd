-- The line that the definition calls bad is the first at which the input can no longer be a good one: the lines before it can go on to good records,
-- and what follows it does not matter. Assumes nothing.
use Prim.Native.Nat.{ℕ, zero, suc, ◌+◌, ◌*◌, ◌<◌}
use mathlib.Core.Path.{◌≡◌, refl, ap, ◌∙◌}
use mathlib.Core.List.{List, [], ◌∷◌, ◌++◌}
use mathlib.Core.Bool.{true}
use native.Mathlib.Omega.{arith}
use lib.ListN.{length, take}
use borrow.Author.Tests.{eq-eqb}
use Rattle.model.specs.Bytes.{Bytes}
use Rattle.model.specs.Tree.{TREE}
use Rattle.model.specs.Raw.{octal, mode_of}
use Rattle.lines.specs.Hex.{hexed, bytes_of}
use Rattle.lines.specs.Lines.{Line, whole, cut, said}
use Rattle.small_records.specs.Records.{path_key, kind_key, id_key, Verb, adds, takes, Op, put, drops, op_of, good_id, edit_of, EditRecord, Stage, at_op, at_path, at_kind, at_id, Step, on, done, wrong, step, Read, bad, good, more, ended, stepped, read}

-- w bytes of zeros in hex
abbrev zeros : ℕ → Bytes
zeros zero = []
zeros (suc w) = 48 ∷ 48 ∷ zeros w

zeros_hex : (w : ℕ) → hexed (zeros w) ≡ true
unfolding hexed
zeros_hex zero = refl
zeros_hex (suc w) = zeros_hex w

zeros_long : (w : ℕ) → length (zeros w) ≡ 2 * w
zeros_long zero = refl
zeros_long (suc w) =
    let ih = zeros_long w in
    omega arith

-- lines that end the record at hand
abbrev id_line : ℕ → Op → List Line
id_line w (put m) = whole (id_key ++ zeros w) ∷ []
id_line w (drops k) = whole id_key ∷ []

abbrev kind_lines : ℕ → Verb → List Line
kind_lines w adds = whole (kind_key ++ octal TREE) ∷ id_line w (put TREE)
kind_lines w (takes k) = whole kind_key ∷ id_line w (drops k)

abbrev rest : ℕ → Stage → List Line
rest w at_op = []
rest w (at_path o) = whole path_key ∷ kind_lines w o
rest w (at_kind o p) = kind_lines w o
rest w (at_id k p) = id_line w k

id_ends : (w n : ℕ) (k : Op) (p : Bytes) → (rs : List EditRecord) × (read w n (id_line w k) (at_id k p) ≡ good rs)
unfolding read step said good_id
id_ends w n (put m) p =
    (record { edit = edit_of (put m) (zeros w); path = p } ∷ [], rw (zeros_hex w, eq-eqb (length (zeros w)) (2 * w) (zeros_long w)))
id_ends w n (drops k) p = (record { edit = edit_of (drops k) []; path = p } ∷ [], refl)

kind_ends : (w n : ℕ) (o : Verb) (p : Bytes) → (rs : List EditRecord) × (read w n (kind_lines w o) (at_kind o p) ≡ good rs)
unfolding read step said op_of mode_of octal
kind_ends w n adds p = id_ends w (suc n) (put TREE) p
kind_ends w n (takes k) p = id_ends w (suc n) (drops k) p

ends : (w n : ℕ) (st : Stage) → (rs : List EditRecord) × (read w n (rest w st) st ≡ good rs)
unfolding read step said hexed bytes_of
ends w n at_op = ([], refl)
ends w n (at_path o) = kind_ends w (suc n) o []
ends w n (at_kind o p) = kind_ends w n o p
ends w n (at_id k p) = id_ends w n k p

-- The first bad line, k lines on: the lines before it go on to good records, and with it every input is bad there
pub record First (w n : ℕ) (ls : List Line) (st : Stage) (m : ℕ) : Type 0 where
  pub k : ℕ
  pub at : m ≡ n + k
  pub after : List Line
  pub records : List EditRecord
  pub goes_on_lem : read w n (take k ls ++ after) st ≡ good records
  pub ends_here : k < length ls → (tail : List Line) → read w n (take (suc k) ls ++ tail) st ≡ bad m

bad_inj : (n m : ℕ) → bad n ≡ bad m → n ≡ m
bad_inj n m e = cc

not_good : (rs : List EditRecord) (m : ℕ) {A : Type 0} → good rs ≡ bad m → A
not_good rs m e = absurd (let z : ◌≡◌ {A = ℕ} 0 1 = cc in omega arith)

more_bad : (r : EditRecord) (x : Read) (m : ℕ) → more r x ≡ bad m → x ≡ bad m
more_bad r (bad n) m e = e
more_bad r (good rs) m e = not_good (r ∷ rs) m e

-- here is the first bad line
here : (w n : ℕ) (ls : List Line) (st : Stage) (m : ℕ) → n ≡ m → (0 < length ls → (tail : List Line) → read w n (take 1 ls ++ tail) st ≡ bad m) → First w n ls st m
here w n ls st m e f =
    let (rs, q) = ends w n st in
    record { k = 0; at = omega arith; after = rest w st; records = rs; goes_on_lem = q; ends_here = f }

-- it is among the lines after this one
there_on : (w n : ℕ) (l : Bytes) (ls : List Line) (st t : Stage) (m : ℕ) → step w st l ≡ on t → First w (suc n) ls t m → First w n (whole l ∷ ls) st m
unfolding read
there_on w n l ls st t m e f = record {
  k = suc f.k;
  at = omega (arith, f.at);
  after = f.after;
  records = f.records;
  goes_on_lem = rw e f.goes_on_lem;
  ends_here = λ h tail. rw e (f.ends_here (omega arith) tail);
}

there_done : (w n : ℕ) (l : Bytes) (ls : List Line) (st : Stage) (r : EditRecord) (m : ℕ) → step w st l ≡ done r → First w (suc n) ls at_op m → First w n (whole l ∷ ls) st m
unfolding read
there_done w n l ls st r m e f = record {
  k = suc f.k;
  at = omega (arith, f.at);
  after = f.after;
  records = r ∷ f.records;
  goes_on_lem = rw e (ap (more r) f.goes_on_lem);
  ends_here = λ h tail. rw e (ap (more r) (f.ends_here (omega arith) tail));
}

missing : (w n : ℕ) (st : Stage) (m : ℕ) → ended n st ≡ bad m → First w n [] st m
missing w n at_op m e = not_good [] m e
missing w n (at_path o) m e = here w n [] (at_path o) m (bad_inj n m e) (λ h. absurd (omega arith))
missing w n (at_kind o p) m e = here w n [] (at_kind o p) m (bad_inj n m e) (λ h. absurd (omega arith))
missing w n (at_id k p) m e = here w n [] (at_id k p) m (bad_inj n m e) (λ h. absurd (omega arith))

pub first_bad : (w n : ℕ) (ls : List Line) (st : Stage) (m : ℕ) → read w n ls st ≡ bad m → First w n ls st m
unfolding read
first_bad w n [] st m e = missing w n st m e
first_bad w n (cut ∷ ls) st m e = here w n (cut ∷ ls) st m (bad_inj n m e) (λ h tail. e)
first_bad w n (whole l ∷ ls) st m e = go (step w st l) refl (λ t. first_bad w (suc n) ls t m) e
  where
    stop : step w st l ≡ wrong → (tail : List Line) → read w n (whole l ∷ tail) st ≡ bad n
    stop f tail = rw f

    go : (x : Step) → step w st l ≡ x → ((t : Stage) → read w (suc n) ls t ≡ bad m → First w (suc n) ls t m) → stepped n x (λ s. read w (suc n) ls s) ≡ bad m → First w n (whole l ∷ ls) st m
    go wrong f ih q = here w n (whole l ∷ ls) st m (bad_inj n m q) (λ h tail. stop f tail ∙ q)
    go (on t) f ih q = there_on w n l ls st t m f (ih t q)
    go (done r) f ih q = there_done w n l ls st r m f (ih at_op (more_bad r (read w (suc n) ls at_op) m q))
