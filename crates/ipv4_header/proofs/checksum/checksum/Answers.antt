use Rattle.ipv4_header.proofs.checksum.checksum.Goals as goal

pub returns-clause-bytes : goal.returns-clause-bytes
returns-clause-bytes c = record { fit = λ k. (c.type_inv.bytes k).fits }
