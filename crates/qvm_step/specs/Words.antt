-- Random words: the ChaCha20 block function of RFC 8439, as the crate `rand_chacha` states it.
use Rattle.std.specs.Prelude.{ℕ, List, replicate}
use Rattle.rand_chacha.specs.ChaCha.{word_at, key_of}

-- word i of stream 0 of a seed of 32 bytes: ten double rounds
unfoldable pub draw : List ℕ → ℕ → ℕ
draw seed i = word_at 10 (key_of seed) 0 i

abbrev pub zero_seed : List ℕ
zero_seed = replicate 32 0
