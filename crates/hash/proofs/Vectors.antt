-- Published vectors, computed from the definition by the check. Assumes nothing.
use Rattle.std.proofs.Common.{◌≡◌, ℕ, List, [], ◌∷◌, refl}
use Rattle.hash.specs.Blocks.{turns, words, word_of, zeros, big_endian, padding, padded, run, hashed}
use Rattle.hash.specs.Sha1 as one
use Rattle.hash.specs.Sha256 as two

abc : List ℕ
abc = 97 ∷ 98 ∷ 99 ∷ []

-- the message of 448 bits, "abcdbcdecdefdefgefghfghighijhijkijkljklmklmnlmnomnopnopq"
long : List ℕ
long =
    97 ∷ 98 ∷ 99 ∷ 100 ∷ 98 ∷ 99 ∷ 100 ∷ 101 ∷ 99 ∷ 100 ∷ 101 ∷ 102 ∷ 100 ∷ 101 ∷ 102 ∷ 103 ∷ 101 ∷ 102 ∷ 103 ∷ 104 ∷
    102 ∷ 103 ∷ 104 ∷ 105 ∷ 103 ∷ 104 ∷ 105 ∷ 106 ∷ 104 ∷ 105 ∷ 106 ∷ 107 ∷ 105 ∷ 106 ∷ 107 ∷ 108 ∷ 106 ∷ 107 ∷ 108 ∷ 109 ∷
    107 ∷ 108 ∷ 109 ∷ 110 ∷ 108 ∷ 109 ∷ 110 ∷ 111 ∷ 109 ∷ 110 ∷ 111 ∷ 112 ∷ 110 ∷ 111 ∷ 112 ∷ 113 ∷ []

abc1 : one.sha1 abc
    ≡ record { a = 0xa9993e36; b = 0x4706816a; c = 0xba3e2571; d = 0x7850c26c; e = 0x9cd0d89d }
unfolding abc one.F one.K one.next one.schedule one.step one.turn turns one.sums one.compress one.initial one.sha1 words word_of zeros big_endian padding padded run hashed
abc1 = refl

empty1 : one.sha1 []
    ≡ record { a = 0xda39a3ee; b = 0x5e6b4b0d; c = 0x3255bfef; d = 0x95601890; e = 0xafd80709 }
unfolding one.F one.K one.next one.schedule one.step one.turn turns one.sums one.compress one.initial one.sha1 words word_of zeros big_endian padding padded run hashed
empty1 = refl

long1 : one.sha1 long
    ≡ record { a = 0x84983e44; b = 0x1c3bd26e; c = 0xbaae4aa1; d = 0xf95129e5; e = 0xe54670f1 }
unfolding long one.F one.K one.next one.schedule one.step one.turn turns one.sums one.compress one.initial one.sha1 words word_of zeros big_endian padding padded run hashed
long1 = refl

abc2 : two.sha256 abc
    ≡ record { a = 0xba7816bf; b = 0x8f01cfea; c = 0x414140de; d = 0x5dae2223; e = 0xb00361a3; f = 0x96177a9c; g = 0xb410ff61; h = 0xf20015ad }
unfolding abc two.next two.schedule two.T1 two.T2 two.step two.turn turns two.sums two.compress two.initial two.sha256 words word_of zeros big_endian padding padded run hashed
abc2 = refl

empty2 : two.sha256 []
    ≡ record { a = 0xe3b0c442; b = 0x98fc1c14; c = 0x9afbf4c8; d = 0x996fb924; e = 0x27ae41e4; f = 0x649b934c; g = 0xa495991b; h = 0x7852b855 }
unfolding two.next two.schedule two.T1 two.T2 two.step two.turn turns two.sums two.compress two.initial two.sha256 words word_of zeros big_endian padding padded run hashed
empty2 = refl

long2 : two.sha256 long
    ≡ record { a = 0x248d6a61; b = 0xd20638b8; c = 0xe5c02693; d = 0x0c3e6039; e = 0xa33ce459; f = 0x64ff2167; g = 0xf6ecedd4; h = 0x19db06c1 }
unfolding long two.next two.schedule two.T1 two.T2 two.step two.turn turns two.sums two.compress two.initial two.sha256 words word_of zeros big_endian padding padded run hashed
long2 = refl
