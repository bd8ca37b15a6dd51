-- A credential is 33 octets: NID, encryption key, privacy key. It is derived from a network key, written, and read back.
--   credential_of keys         the credential of what a network key is used by
--   keys_of credential         a credential read back
--   pieces credentials         the first four of a list of credentials
--   piece_count credentials    how many of them are there whole
--   credentials_done key out   what a call of `gorephan_credentials` leaves
use Rattle.std.specs.Prelude.{not, List, ◌∷◌, ◌++◌, ℕ, ◌/◌, min, eqb, ltb, length, get_or, drop, if◌then◌else◌}
use Rattle.common.specs.Chunks.{chunk}
use Rattle.common.specs.Lent.{Lent, lent}
use Rattle.common.specs.Lists.{tab, padded, onto}
use Rattle.keys.specs.declared.NetworkKeys.{NetworkKeys}
use Rattle.keys.specs.Derivation.{k2}

-- 33 octets: NID, encryption key, privacy key
unfoldable pub credential_of : NetworkKeys → List ℕ
credential_of keys = keys.nid ∷ keys.encryption ++ keys.privacy

-- a credential read back: NID is its octet 0, the encryption key its octets 1-16, the privacy key its octets 17-32
unfoldable pub keys_of : List ℕ → NetworkKeys
keys_of credential = record { nid = get_or credential 0 0; encryption = padded 16 (drop 1 credential); privacy = padded 16 (drop 17 credential) }

-- piece i of 33 octets, from 0, read back
unfoldable pub piece_at : List ℕ → ℕ → NetworkKeys
piece_at credentials i = keys_of (chunk 33 credentials i)

-- the first four pieces
unfoldable pub pieces : List ℕ → List NetworkKeys
pieces credentials = tab (piece_at credentials) 4

-- how many of them are there whole: the rest is ignored
unfoldable pub piece_count : List ℕ → ℕ
piece_count credentials = min (length credentials / 33) 4

-- 14 iff key is not 16 octets or out is shorter than 33; else 0, and out's first 33 octets are the credential
unfoldable pub credentials_done : List ℕ → List ℕ → Lent ℕ
credentials_done key out =
    if not (eqb (length key) 16) then lent 14 out else
    if ltb (length out) 33 then lent 14 out else
    lent 0 (onto (credential_of (k2 key)) out)
