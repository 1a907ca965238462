-- Lanes that are written: a number's low bytes are those of the number modulo any power that holds them, a lane that is written is read
-- back, and writing lane after lane makes the lanes side by side.
-- Assumes nothing.
use Rattle.std.proofs.Common.{◌≡◌, ℕ, zero, suc, ◌+◌, ◌-◌, ◌*◌, ◌/◌, ◌%◌, ◌^◌, ◌<◌, ◌≤◌, List, ◌++◌, length, drop, replicate, ℤ, pos, negsuc, sym, refl, ap, ◌∙◌, ap₂, append_assoc, append-nil, le_of_suc-le-suc, not-suc-le-zero, add-zero, mod-lt, suc-mul, mul_comm, div-lt_iff_lt-mul, add-mul, add_comm, zero-add, zero-mul, add-one, arith, length-append, drop-drop, take_at, drop_at, pow_pos, pow-add}
use native.Mathlib.Nat.{mod-add-div', mod-mod_of_dvd, dvd-mul_left}
use native.Mathlib.Nat.{le_dest, sub-zero, sub_self, sub-add-eq}
use lib.ListN.{length-replicate}
use lib.Arith.{digits_mod}
use lib.Seq.{drop-append-add}
use Rattle.parts.specs.Number.{bytes_of, bits_of}
use Rattle.parts.proofs.Numbers.{length_bytes_lem, bytes_modulo, number_bytes, drop_replicate}
use Rattle.lanes.specs.Lane.{lane, with_lane, from_lanes}
use Rattle.lanes.specs.Integer.{residue}

-- n lanes of w bytes are n·w bytes
pub length_lanes : (w e n : ℕ) (f : ℕ → ℕ) → length (from_lanes w e n f) ≡ n * w
length_lanes w e zero f = sym (zero-mul w)
length_lanes w e (suc n) f =
    length-append (bytes_of w (f e)) (from_lanes w (suc e) n f)
    ∙ omega (arith, length_bytes_lem w (f e), length_lanes w (suc e) n f, suc-mul n w)

-- lanes side by side, with one lane more
pub lanes_snoc : (w e n : ℕ) (f : ℕ → ℕ) → from_lanes w e (suc n) f ≡ from_lanes w e n f ++ bytes_of w (f (e + n))
lanes_snoc w e zero f = append-nil (bytes_of w (f e)) ∙ ap (λ (i : ℕ). bytes_of w (f i)) (sym (add-zero e))
lanes_snoc w e (suc n) f =
    ap (λ (l : List ℕ). bytes_of w (f e) ++ l) (lanes_snoc w (suc e) n f)
    ∙ sym (append_assoc (bytes_of w (f e)) (from_lanes w (suc e) n f) (bytes_of w (f (suc e + n))))
    ∙ ap (λ (i : ℕ). bytes_of w (f e) ++ from_lanes w (suc e) n f ++ bytes_of w (f i)) (omega arith)

-- fewer digits of an integer are the low digits of more
pub residue_modulo : (D d : ℕ) (z : ℤ) → residue D z ≡ residue (D + d) z % 2 ^ D
residue_modulo D d (pos n) =
    sym (rw (pow-add 2 D d, mul_comm (2 ^ D) (2 ^ d)) (mod-mod_of_dvd (2 ^ D) {b = 2 ^ d * 2 ^ D} n (dvd-mul_left (2 ^ D) (2 ^ d))))
residue_modulo D d (negsuc n) = go (le_dest quotient)
  where
    N : ℕ
    N = 2 ^ D

    r : ℕ
    r = n % 2 ^ (D + d)

    wide : 2 ^ (D + d) ≡ 2 ^ d * N
    wide = pow-add 2 D d ∙ mul_comm (2 ^ D) (2 ^ d)

    below : r < 2 ^ d * N
    below = rw (← wide) (mod-lt n (pow_pos (D + d)))

    quotient : r / N < 2 ^ d
    quotient = (div-lt_iff_lt-mul (pow_pos D)).1 below

    same : r % N ≡ n % N
    same = rw (wide) (mod-mod_of_dvd N {b = 2 ^ d * N} n (dvd-mul_left N (2 ^ d)))

    small : r % N < N
    small = mod-lt r (pow_pos D)

    go : (j : ℕ) × (suc (r / N) + j ≡ 2 ^ d) → N - suc (n % N) ≡ (2 ^ (D + d) - suc r) % N
    go (j, e) =
        rw (← same)
        (sym (ap (λ (k : ℕ). k % N)
        (omega (arith, wide ∙ ap (λ (k : ℕ). k * N) (sym e) ∙ add-mul (suc (r / N)) j N, suc-mul (r / N) N, mod-add-div' r N, small))
        ∙ digits_mod j (omega (arith, small))))

-- the low bytes of an integer are those of its 64 digits
pub bytes_residue : (w : ℕ) → w ≤ 8 → (z : ℤ) → bytes_of w (residue (bits_of w) z) ≡ bytes_of w (residue 64 z)
bytes_residue w h z =
    let whole : bits_of w + (64 - bits_of w) ≡ 64 = omega arith in
    ap (bytes_of w) (residue_modulo (bits_of w) (64 - bits_of w) z ∙ ap (λ (k : ℕ). k % 2 ^ bits_of w) (ap (λ (k : ℕ). residue k z) whole))
    ∙ ap (λ (k : ℕ). bytes_of w (residue 64 z % 2 ^ k)) (sym (add-zero (bits_of w)))
    ∙ bytes_modulo w 0 (residue 64 z)

-- writing the next lane behind those that stand there
pub write_next : (w e v : ℕ) (f : ℕ → ℕ) (rest : List ℕ) → bytes_of w v ≡ bytes_of w (f e)
    → with_lane w e v (from_lanes w 0 e f ++ rest) ≡ from_lanes w 0 (suc e) f ++ drop w rest
write_next w e v f rest same =
    rw (
      take_at (from_lanes w 0 e f) rest (e * w) (length_lanes w 0 e f),
      same,
      lanes_snoc w 0 e f,
      zero-add e,
    )
    (ap (λ (l : List ℕ). from_lanes w 0 e f ++ bytes_of w (f e) ++ l)
    (ap (λ (k : ℕ). drop (k + w) (from_lanes w 0 e f ++ rest)) (sym (length_lanes w 0 e f)) ∙ drop-append-add (from_lanes w 0 e f) rest w))

-- a lane of lanes that stand side by side, read back
pub read_lane : (w e n i : ℕ) (f : ℕ → ℕ) (rest : List ℕ) → i < n → lane w i (from_lanes w e n f ++ rest) ≡ f (e + i) % 2 ^ bits_of w
read_lane w e zero i f rest h = absurd (not-suc-le-zero h)
read_lane w e (suc n) zero f rest h =
    rw (zero-mul w, append_assoc, take_at (bytes_of w (f e)) (from_lanes w (suc e) n f ++ rest) w (length_bytes_lem w (f e)), add-zero e) (number_bytes w (f e))
read_lane w e (suc n) (suc i) f rest h =
    rw (
      suc-mul i w,
      add_comm (i * w) w,
      append_assoc,
      ← drop-drop (i * w) w (bytes_of w (f e) ++ (from_lanes w (suc e) n f ++ rest)),
      drop_at (bytes_of w (f e)) (from_lanes w (suc e) n f ++ rest) w (length_bytes_lem w (f e)),
    )
    (read_lane w (suc e) n i f rest (le_of_suc-le-suc h) ∙ ap (λ (k : ℕ). f k % 2 ^ bits_of w) (omega arith))

-- lanes that hold the same, side by side
pub same_lanes : (w e n : ℕ) (f g : ℕ → ℕ) → ((i : ℕ) → e ≤ i → i < e + n → f i ≡ g i) → from_lanes w e n f ≡ from_lanes w e n g
same_lanes w e zero f g h = refl
same_lanes w e (suc n) f g h =
    ap₂ ◌++◌ (ap (bytes_of w) (h e (omega arith) (omega arith)))
    (same_lanes w (suc e) n f g (λ i l k. h i (omega arith) (omega arith)))

-- a buffer of zeros into which the lanes below e are written
abbrev pub Begun : ℕ → ℕ → ℕ → (ℕ → ℕ) → List ℕ → Type 0
Begun size w e f buffer = buffer ≡ from_lanes w 0 e f ++ replicate (size - e * w) 0

-- before the first lane the buffer is all zeros
pub begun_none : (size w : ℕ) (f : ℕ → ℕ) → Begun size w 0 f (replicate size 0)
begun_none size w f = rw (zero-mul w, sub-zero size)

-- with lane e written, the lanes below e + 1 are
pub begun_next : (size w e v : ℕ) (f : ℕ → ℕ) (buffer : List ℕ) → bytes_of w v ≡ bytes_of w (f e) → Begun size w e f buffer
    → Begun size w (e + 1) f (with_lane w e v buffer)
begun_next size w e v f buffer same h =
    ap (with_lane w e v) h
    ∙ write_next w e v f (replicate (size - e * w) 0) same
    ∙ rw (add-one e, drop_replicate w (size - e * w) 0, suc-mul e w, sub-add-eq size (e * w) w)

-- a buffer into which lanes are written keeps its size
pub begun_length : (size w e : ℕ) (f : ℕ → ℕ) (buffer : List ℕ) → e * w ≤ size → Begun size w e f buffer → length buffer ≡ size
begun_length size w e f buffer h begun =
    ap length begun
    ∙ length-append (from_lanes w 0 e f) (replicate (size - e * w) 0)
    ∙ omega (arith, length_lanes w 0 e f, length-replicate {A = ℕ} (size - e * w) 0)

-- after the last lane, where the lanes fill the buffer, it holds them side by side
pub begun_all : (size w e n : ℕ) (f : ℕ → ℕ) (buffer : List ℕ) → e ≡ n → n * w ≡ size → Begun size w e f buffer → buffer ≡ from_lanes w 0 n f
begun_all size w e n f buffer last fills begun =
    begun ∙ rw (last, fills, sub_self size) (append-nil (from_lanes w 0 n f))
