-- One key tried on one PDU of 14 to 29 octets: the header that it gives, or that it does not authenticate.
use Rattle.std.specs.Prelude.{Bool, ◌&&◌, Option, Some, None, List, ℕ, ◌-◌, ◌%◌, leb, ltb, length, get_or, take, drop, if◌then◌else◌}
use Rattle.common.specs.Lists.{padded}
use Rattle.common.specs.Lent.{Lent}
use Rattle.aes.specs.KeyExpansion.{key_schedule}
use Rattle.modes.specs.Ccm.{decrypted}
use Rattle.keys.specs.declared.NetworkKeys.{NetworkKeys}
use Rattle.network.specs.declared.header.Header.{Header}
use Rattle.network.specs.Nonce.{network_nonce}
use Rattle.network.specs.Octets.{number}
use Rattle.network.specs.Pdu.{net_mic, front_of}

-- what octets 1-6 say in clear: CTL (1), TTL (7); SEQ; SRC
abbrev pub ctl_of : List ℕ → Bool
ctl_of front = leb 128 (get_or front 0 0)

abbrev pub ttl_of : List ℕ → ℕ
ttl_of front = get_or front 0 0 % 128

abbrev pub seq_of : List ℕ → ℕ
seq_of front = number (take 3 (drop 1 front))

abbrev pub src_of : List ℕ → ℕ
src_of front = number (take 2 (drop 4 front))

-- the header of a clear front (octets 1-6) and a clear body (DST and transport)
unfoldable pub header_of : ℕ → ℕ → List ℕ → List ℕ → Header
header_of place iv front body =
    record {
      key = place;
      iv = iv;
      ctl = ctl_of front;
      ttl = ttl_of front;
      seq = seq_of front;
      src = src_of front;
      dst = number (take 2 body);
      len = length body - 2;
      transport = padded 16 (drop 2 body);
    }

-- the network nonce that a clear front gives
unfoldable pub nonce_of : ℕ → List ℕ → List ℕ
nonce_of iv front = network_nonce (ctl_of front) (ttl_of front) (seq_of front) (src_of front) iv

-- the body decrypted, and whether its NetMIC is right
unfoldable pub body_tried : NetworkKeys → ℕ → List ℕ → List ℕ → Lent Bool
body_tried key iv front pdu = decrypted (key_schedule key.encryption) (nonce_of iv front) (net_mic (ctl_of front)) (drop 7 pdu)

-- the key at a place of the list tried on a PDU; CTL 1 in fewer than 18 octets never authenticates
unfoldable pub tried : NetworkKeys → ℕ → ℕ → List ℕ → Option Header
tried key place iv pdu =
    let front = front_of key iv pdu in
    let body = body_tried key iv front pdu in
    if ctl_of front && ltb (length pdu) 18 then None else
    if body.answer then Some (header_of place iv front body.buffer) else
    None
