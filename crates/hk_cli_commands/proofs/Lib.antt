mod Absorbed
