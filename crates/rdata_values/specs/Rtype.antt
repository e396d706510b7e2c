-- The types of records by their names, as IANA's registry has them.
use Rattle.rdata_values.specs.declared.types.RecordType.{RecordType}

abbrev pub a : RecordType
a = 1

abbrev pub ns : RecordType
ns = 2

abbrev pub md : RecordType
md = 3

abbrev pub mf : RecordType
mf = 4

abbrev pub cname : RecordType
cname = 5

abbrev pub soa : RecordType
soa = 6

abbrev pub mb : RecordType
mb = 7

abbrev pub mg : RecordType
mg = 8

abbrev pub mr : RecordType
mr = 9

abbrev pub null : RecordType
null = 10

abbrev pub wks : RecordType
wks = 11

abbrev pub ptr : RecordType
ptr = 12

abbrev pub hinfo : RecordType
hinfo = 13

abbrev pub minfo : RecordType
minfo = 14

abbrev pub mx : RecordType
mx = 15

abbrev pub txt : RecordType
txt = 16

abbrev pub rp : RecordType
rp = 17

abbrev pub afsdb : RecordType
afsdb = 18

abbrev pub x25 : RecordType
x25 = 19

abbrev pub isdn : RecordType
isdn = 20

abbrev pub rt : RecordType
rt = 21

abbrev pub nsap : RecordType
nsap = 22

abbrev pub nsap_ptr : RecordType
nsap_ptr = 23

abbrev pub sig : RecordType
sig = 24

abbrev pub key : RecordType
key = 25

abbrev pub px : RecordType
px = 26

abbrev pub gpos : RecordType
gpos = 27

abbrev pub aaaa : RecordType
aaaa = 28

abbrev pub loc : RecordType
loc = 29

abbrev pub nxt : RecordType
nxt = 30

abbrev pub eid : RecordType
eid = 31

abbrev pub nimloc : RecordType
nimloc = 32

abbrev pub srv : RecordType
srv = 33

abbrev pub atma : RecordType
atma = 34

abbrev pub naptr : RecordType
naptr = 35

abbrev pub kx : RecordType
kx = 36

abbrev pub cert : RecordType
cert = 37

abbrev pub a6 : RecordType
a6 = 38

abbrev pub dname : RecordType
dname = 39

abbrev pub sink : RecordType
sink = 40

abbrev pub opt : RecordType
opt = 41

abbrev pub apl : RecordType
apl = 42

abbrev pub ds : RecordType
ds = 43

abbrev pub sshfp : RecordType
sshfp = 44

abbrev pub ipseckey : RecordType
ipseckey = 45

abbrev pub rrsig : RecordType
rrsig = 46

abbrev pub nsec : RecordType
nsec = 47

abbrev pub dnskey : RecordType
dnskey = 48

abbrev pub dhcid : RecordType
dhcid = 49

abbrev pub nsec3 : RecordType
nsec3 = 50

abbrev pub nsec3param : RecordType
nsec3param = 51

abbrev pub tlsa : RecordType
tlsa = 52

abbrev pub smimea : RecordType
smimea = 53

abbrev pub hip : RecordType
hip = 55

abbrev pub ninfo : RecordType
ninfo = 56

abbrev pub rkey : RecordType
rkey = 57

abbrev pub talink : RecordType
talink = 58

abbrev pub cds : RecordType
cds = 59

abbrev pub cdnskey : RecordType
cdnskey = 60

abbrev pub openpgpkey : RecordType
openpgpkey = 61

abbrev pub csync : RecordType
csync = 62

abbrev pub zonemd : RecordType
zonemd = 63

abbrev pub svcb : RecordType
svcb = 64

abbrev pub https : RecordType
https = 65

abbrev pub dsync : RecordType
dsync = 66

abbrev pub hhit : RecordType
hhit = 67

abbrev pub brid : RecordType
brid = 68

abbrev pub spf : RecordType
spf = 99

abbrev pub uinfo : RecordType
uinfo = 100

abbrev pub uid : RecordType
uid = 101

abbrev pub gid : RecordType
gid = 102

abbrev pub unspec : RecordType
unspec = 103

abbrev pub nid : RecordType
nid = 104

abbrev pub l32 : RecordType
l32 = 105

abbrev pub l64 : RecordType
l64 = 106

abbrev pub lp : RecordType
lp = 107

abbrev pub eui48 : RecordType
eui48 = 108

abbrev pub eui64 : RecordType
eui64 = 109

abbrev pub nxname : RecordType
nxname = 128

abbrev pub tkey : RecordType
tkey = 249

abbrev pub tsig : RecordType
tsig = 250

abbrev pub ixfr : RecordType
ixfr = 251

abbrev pub axfr : RecordType
axfr = 252

abbrev pub mailb : RecordType
mailb = 253

abbrev pub maila : RecordType
maila = 254

abbrev pub any : RecordType
any = 255

abbrev pub uri : RecordType
uri = 256

abbrev pub caa : RecordType
caa = 257

abbrev pub avc : RecordType
avc = 258

abbrev pub doa : RecordType
doa = 259

abbrev pub amtrelay : RecordType
amtrelay = 260

abbrev pub resinfo : RecordType
resinfo = 261

abbrev pub wallet : RecordType
wallet = 262

abbrev pub cla : RecordType
cla = 263

abbrev pub ipn : RecordType
ipn = 264

abbrev pub ta : RecordType
ta = 32768

abbrev pub dlv : RecordType
dlv = 32769
